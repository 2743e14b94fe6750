-- The dispatcher's decision, from the bytes that it is given. Assumes nothing.
use Rattle.std.specs.Prelude.{ℕ, cond, not, List, length, Some, None, Ok, Err, Result, ◌==◌, nat_lt}
use Rattle.roles.specs.Meaning.{Meaning}
use Rattle.roles.specs.Refusal.{number_of as scheme_number, place_of as scheme_place}
use Rattle.roles.specs.declared.scheme.SchemeFault.TheVariants.{Unsound}
use Rattle.codes.specs.Bytes.{little_endian}
use Rattle.blocks.specs.Kinds.{scheme_of}
use Rattle.blocks.specs.Format.{Parsed, block_of}
use Rattle.blocks.specs.Format.{number_of as block_number, place_of as block_place}
use Rattle.blocks.specs.declared.block.BlockFault.{BlockFault}
use Rattle.dispatcher.specs.declared.report.Codes.{Codes}
use Rattle.dispatcher.specs.declared.report.Refusal.{Refusal}
use Rattle.dispatcher.specs.declared.report.Refusal.TheVariants.{Block, Scheme, TooShort, TooLong, BoundNoRole, DutyNoRole}
use Rattle.dispatcher.specs.declared.report.Decision.{Decision}
use Rattle.dispatcher.specs.declared.report.Decision.TheVariants.{MayStart, MayNotStart}
use Rattle.dispatcher.specs.declared.report.Report.{Report}

-- the number of a refusal
abbrev pub number_of : Refusal → ℕ
number_of (Block fault) = block_number fault
number_of (Scheme fault) = scheme_number fault
number_of TooShort = 3
number_of TooLong = 5
number_of BoundNoRole = 9
number_of DutyNoRole = 30

-- the place of a refusal: no entry is meant
abbrev pub place_of : Refusal → ℕ
place_of (Block fault) = block_place fault
place_of (Scheme fault) = scheme_place fault
place_of TooShort = 0
place_of TooLong = 0
place_of BoundNoRole = 0
place_of DutyNoRole = 0

-- the decision on two codes: the questions in their order, then the comparison
abbrev pub compared : Meaning → Codes → Result Decision Refusal
compared m codes =
    cond (not m.sound) (Err (Scheme Unsound))
    (cond (not (m.role codes.bound)) (Err BoundNoRole)
    (cond (not (m.role codes.on_duty)) (Err DutyNoRole)
    (Ok (cond (m.dom codes.on_duty codes.bound) MayStart MayNotStart))))

-- the codes after a block: the role on duty, then the bound
abbrev pub codes_in : List ℕ → Codes
codes_in rest = record { on_duty = little_endian 8 rest 0; bound = little_endian 8 rest 8 }

-- the refusal of an input whose block is not followed by two codes and nothing else
abbrev pub wrong_length : Meaning → ℕ → Refusal
wrong_length m n = cond m.sound (cond (nat_lt n 16) TooShort TooLong) (Scheme Unsound)

-- what is reported after a block was read
abbrev pub after_block : Parsed → Report
after_block p =
    cond (length p.rest == 16)
    (record { scheme = Some p.block; codes = Some (codes_in p.rest); decision = compared (scheme_of p.block) (codes_in p.rest) })
    (record { scheme = Some p.block; codes = None; decision = Err (wrong_length (scheme_of p.block) (length p.rest)) })

-- what is reported on what was read of a block
abbrev pub reported : Result Parsed BlockFault → Report
reported (Ok p) = after_block p
reported (Err fault) = record { scheme = None; codes = None; decision = Err (Block fault) }

-- the report on an input: a scheme block, the role on duty, the bound
abbrev pub report_on : List ℕ → Report
report_on input = reported (block_of input)
