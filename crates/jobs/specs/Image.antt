-- A job as bytes: t and n, a tag for each entry, then the operands of each entry; numbers lie lowest byte first. Assumes nothing.
use Rattle.std.specs.Prelude.{ℕ, ◌+◌, ◌*◌, List, ◌++◌, map, length, drop, slice_index}
use Rattle.std.specs.List.{range_with_len, flat_map}
use Rattle.codes.specs.Bytes.{little_endian, bytes_of}
use Rattle.tables.specs.declared.entry.Entry.{Entry}

-- The number in the two bytes from place p on.
abbrev pub number16 : List ℕ → ℕ → ℕ
number16 bs p = little_endian 2 bs p

-- The number in the four bytes from place p on.
abbrev pub number32 : List ℕ → ℕ → ℕ
number32 bs p = little_endian 4 bs p

-- The number in the eight bytes from place p on.
abbrev pub number64 : List ℕ → ℕ → ℕ
number64 bs p = little_endian 8 bs p

-- How many types an image says that it has.
abbrev pub types_told : List ℕ → ℕ
types_told bs = number16 bs 0

-- How many terms an image says that it has.
abbrev pub terms_told : List ℕ → ℕ
terms_told bs = number16 bs 2

-- How many bytes the image of t types and n terms has.
abbrev pub image_length : ℕ → ℕ → ℕ
image_length t n = 4 + 17 * (t + n)

-- Entry k of a table: its tag, and its 16 bytes of operands.
abbrev pub entry_at : List ℕ → List ℕ → ℕ → Entry
entry_at tags operands k =
    record {
      tag = slice_index tags k;
      first = number32 operands (16 * k);
      second = number32 operands (16 * k + 4);
      third = number64 operands (16 * k + 8);
    }

-- The first n entries of a table.
abbrev pub entries : List ℕ → List ℕ → ℕ → List Entry
entries tags operands n = map (entry_at tags operands) (range_with_len 0 n)

-- The operands of all entries follow the tags.
abbrev pub operands_in : List ℕ → ℕ → ℕ → List ℕ
operands_in bs t n = drop (4 + t + n) bs

-- The types of an image of t types and n terms.
abbrev pub types_in : List ℕ → ℕ → ℕ → List Entry
types_in bs t n = entries (drop 4 bs) (operands_in bs t n) t

-- Its terms.
abbrev pub terms_in : List ℕ → ℕ → ℕ → List Entry
terms_in bs t n = entries (drop (4 + t) bs) (drop (16 * t) (operands_in bs t n)) n

-- A number of 16 bits as bytes.
abbrev pub bytes16 : ℕ → List ℕ
bytes16 x = bytes_of 2 x

-- A number of 32 bits as bytes.
abbrev pub bytes32 : ℕ → List ℕ
bytes32 x = bytes_of 4 x

-- A number of 64 bits as bytes.
abbrev pub bytes64 : ℕ → List ℕ
bytes64 x = bytes_of 8 x

-- The 16 bytes of an entry's operands.
abbrev pub operand_bytes : Entry → List ℕ
operand_bytes e = bytes32 e.first ++ bytes32 e.second ++ bytes64 e.third

-- The tags of a table.
abbrev pub tags : List Entry → List ℕ
tags es = map (λ e. e.tag) es

-- The image of a job: the two counts, the tags, the operands.
abbrev pub image : List Entry → List Entry → List ℕ
image types terms =
    bytes16 (length types) ++ bytes16 (length terms) ++ tags types ++ tags terms ++ flat_map operand_bytes types ++ flat_map operand_bytes terms
