-- The number of each kind, the first byte of a block. Assumes nothing.
use Rattle.std.specs.Prelude.{◌≡◌, ℕ, ◌≤◌, Ok, Err, Result}
use Rattle.blocks.specs.declared.block.Kind.{Kind}
use Rattle.blocks.specs.declared.block.Kind.TheVariants.{Mask, Ladder, Hierarchy, Ranked}
use Rattle.blocks.specs.declared.block.BlockFault.{BlockFault}
use Rattle.blocks.specs.declared.block.BlockFault.TheVariants.{UnknownKind}

-- the number of a kind
abbrev pub number_of_kind : Kind → ℕ
number_of_kind Mask = 0
number_of_kind Ladder = 1
number_of_kind Hierarchy = 2
number_of_kind Ranked = 3

-- A number from 0 to 3 gives the kind that it is the number of; another is refused with itself.
abbrev pub Decodes : ℕ → Result Kind BlockFault → Type 0
Decodes number (Ok kind) = number ≡ number_of_kind kind
Decodes number (Err fault) = (4 ≤ number) × (fault ≡ UnknownKind number)
