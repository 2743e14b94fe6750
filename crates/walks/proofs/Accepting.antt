-- A job about which all questions of form were answered with yes can be walked.
use Rattle.std.proofs.Common.{◌≡◌, ℕ, List, length, take, Ok, arith}
use Rattle.std.proofs.lemmas.List.{length-take-le}
use Rattle.roles.specs.Meaning.{Meaning}
use Rattle.tables.specs.declared.entry.Entry.{Entry}
use Rattle.tables.specs.Form.{form}
use Rattle.trees.specs.Formed.{Accepted}
use Rattle.trees.proofs.Accepting.{form_decides_lem}
use Rattle.walks.specs.Places.{Walkable}

module _ (m : Meaning) (t n : ℕ) (T M : List Entry) (h : form m t n T M ≡ Ok tt) where
  accepted : Accepted m t n T M
  accepted = (form_decides_lem m t n T M).0 h

  pub terms_long : length (take n M) ≡ n
  terms_long = length-take-le n M accepted.terms_room

  pub walkable : Walkable m t T (take n M)
  walkable =
      let l = terms_long in
      let a = accepted in
      record {
        sound = a.sound;
        some = omega (arith, a.terms_some);
        few = omega (arith, a.terms_few);
        small = a.types_few;
        room = omega (arith, a.types_room);
        formed = a.formed;
      }
