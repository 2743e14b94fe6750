use Rattle.std.proofs.Common.{length}
use Rattle.aloud.proofs.type_words.TypeAt.+show.Given as goal

-- a type names lower types
abbrev pub decreases-show : goal.decreases-show
decreases-show g l = length l.self.types.now
