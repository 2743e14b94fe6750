use Rattle.std.proofs.Common.{◌+◌, List, length, sym, subst, arith}
use Rattle.std.proofs.lemmas.Bool.{leb-true, leb-false}
use Rattle.tables.specs.declared.entry.Entry.{Entry}
use Rattle.machine.specs.Plans.{Written, write}
use Rattle.runs.specs.Reach.{Ground}
use Rattle.runs.specs.Copy.{places}
use Rattle.runs.specs.Find.{act_plan, along}
use Rattle.runs.proofs.Turning.{redex_turn, fits_act, length_along}
use Rattle.runs.proofs.turn.turn_at.Goals as goal

pub fits-requires-clause-form : goal.fits-requires-clause-form
fits-requires-clause-form g c =
    let us : List Entry = c.split_at_mut-old.result.0.now in
    fits_act us c.args.current c.in_ok-redex.redex.act c.in_ok-redex.redex.path (subst Ground (sym c.split_at_mut-old.ensures.front) c.requires.0.ground) c.in_ok-redex.ensures.fits

pub returns-then-not-fits : goal.returns-then-not-fits
returns-then-not-fits g c =
    let us : List Entry = c.split_at_mut-old.result.0.now in
    let gs : List Entry = c.split_at_mut-old.result.1.now in
    let x = c.in_ok-redex.redex in
    let w : Written = write c.args.used (along us x.path c.args.current x.act) in
    let l = length_along us c.args.used c.args.current x.act x.path (subst Ground (sym c.split_at_mut-old.ensures.front) c.requires.0.ground) c.in_ok-redex.ensures.fits in
    let o = leb-false (places (act_plan us x.act) + x.path) (length gs) (sym c.if-not-fits.ensures) in
    let k = c.split_at_mut-old.ensures.back_len in (
      w.entries,
      w.place,
      redex_turn (g.S.Scheme.meaning c.args.scheme.now) c.args.role c.args.terms.now c.args.used c.args.current c.requires.0.low us c.split_at_mut-old.ensures.front x c.in_ok-redex.ensures.met,
      omega arith,
      sym c.split_at_mut-old.ensures.value,
    )

pub make-requires-clause-room : goal.make-requires-clause-room
make-requires-clause-room g c =
    let us : List Entry = c.split_at_mut-old.result.0.now in
    let x = c.in_ok-redex.redex in
    let l = length_along us (length us) c.args.current x.act x.path (subst Ground (sym c.split_at_mut-old.ensures.front) c.requires.0.ground) c.in_ok-redex.ensures.fits in
    let o = leb-true (places (act_plan us x.act) + x.path) (length c.split_at_mut-old.result.1.now) (sym c.if-not-fits.ensures) in
    omega arith
