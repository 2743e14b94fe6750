-- The scheme block as bytes, and its refusal. Assumes nothing.
use Rattle.std.specs.Prelude.{ℕ, zero, suc, ◌-◌, ◌*◌, Bool, cond, List, [], ◌∷◌, ◌++◌, length, drop, replicate, Ok, Err, Result, ◌==◌, nat_le, nat_lt, slice_index}
use Rattle.codes.specs.Bytes.{little_endian}
use Rattle.hierarchies.specs.declared.Hierarchy.{Hierarchy as Rows}
use Rattle.blocks.specs.declared.block.Block.{Block}
use Rattle.blocks.specs.declared.block.Block.TheVariants.{Mask, Ladder, Hierarchy, Ranked}
use Rattle.blocks.specs.declared.block.BlockFault.{BlockFault}
use Rattle.blocks.specs.declared.block.BlockFault.TheVariants.{NotWhole, UnknownKind}

-- the number of a refusal
abbrev pub number_of : BlockFault → ℕ
number_of NotWhole = 1
number_of (UnknownKind kind) = 1

-- the place of a refusal: no entry is meant
abbrev pub place_of : BlockFault → ℕ
place_of NotWhole = 0
place_of (UnknownKind kind) = 0

-- a block, and the bytes after it
pub record Parsed : Type 0 where
  pub block : Block
  pub rest : List ℕ

-- what a reader told, with the rest of the bytes by value
abbrev pub told : {P : Type 0} → Result P BlockFault → (P → Parsed) → Result Parsed BlockFault
told (Ok p) f = Ok (f p)
told (Err e) f = Err e

-- the first k rows, eight bytes each
abbrev pub words : ℕ → List ℕ → List ℕ
words zero bytes = []
words (suc k) bytes = words k bytes ++ (little_endian 8 bytes (8 * k) ∷ [])

-- how many rows follow a size: as many as it says from 1 to 64, else none
abbrev pub rows_after : ℕ → ℕ
rows_after n = cond (nat_le n 64) n 0

-- all 64 rows; those that do not follow are 0
abbrev pub rows_in : ℕ → List ℕ → List ℕ
rows_in n bytes = words (rows_after n) bytes ++ replicate (64 - rows_after n) 0

-- a hierarchy of n roles
abbrev pub hierarchy_in : ℕ → List ℕ → Rows
hierarchy_in n bytes = record { count = n; rows = rows_in n bytes }

-- the bytes after the rows
abbrev pub after_rows : ℕ → List ℕ → List ℕ
after_rows n bytes = drop (8 * rows_after n) bytes

-- are all the rows there?
abbrev pub has_rows : ℕ → List ℕ → Bool
has_rows n bytes = nat_le (8 * rows_after n) (length bytes)

-- a hierarchy's rows, then a top rank
abbrev pub ranked : Rows → List ℕ → Result Parsed BlockFault
ranked h bytes =
    cond (nat_lt (length bytes) 1) (Err NotWhole)
    (Ok (record { block = Ranked (record { first = h; second = record { top = slice_index bytes 0 } }); rest = drop 1 bytes }))

-- a size and what follows it, by kind: 0 and a width; 1 and a top rank; 2, a size and its rows; 3, a size, its rows and a top rank
abbrev pub block_by : ℕ → ℕ → List ℕ → Result Parsed BlockFault
block_by kind size rest =
    cond (kind == 0) (Ok (record { block = Mask (record { width = size }); rest = rest }))
    (cond (kind == 1) (Ok (record { block = Ladder (record { top = size }); rest = rest }))
    (cond (kind == 2) (cond (has_rows size rest) (Ok (record { block = Hierarchy (hierarchy_in size rest); rest = after_rows size rest })) (Err NotWhole))
    (cond (kind == 3) (cond (has_rows size rest) (ranked (hierarchy_in size rest) (after_rows size rest)) (Err NotWhole))
    (Err (UnknownKind kind)))))

-- a block begins with its kind and a size
abbrev pub block_of : List ℕ → Result Parsed BlockFault
block_of bytes = cond (nat_lt (length bytes) 2) (Err NotWhole) (block_by (slice_index bytes 0) (slice_index bytes 1) (drop 2 bytes))
