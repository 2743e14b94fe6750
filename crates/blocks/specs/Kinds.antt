-- What a block means as a scheme. Assumes nothing.
use Rattle.roles.specs.Meaning.{Meaning}
use Rattle.masks.specs.Kind.{mask}
use Rattle.ladders.specs.Kind.{ladder}
use Rattle.hierarchies.specs.Kind.{hierarchy}
use Rattle.pairs.specs.Kind.{pair}
use Rattle.blocks.specs.declared.block.Block.{Block}
use Rattle.blocks.specs.declared.block.Block.TheVariants.{Mask, Ladder, Hierarchy, Ranked}

-- a block means the scheme that it holds
abbrev pub scheme_of : Block → Meaning
scheme_of (Mask m) = mask m.width
scheme_of (Ladder l) = ladder l.top
scheme_of (Hierarchy h) = hierarchy h.count h.rows
scheme_of (Ranked p) = pair (hierarchy p.first.count p.first.rows) (ladder p.second.top)
