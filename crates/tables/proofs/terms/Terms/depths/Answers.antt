use Rattle.std.proofs.Common.{◌≡◌, ℕ, ◌+◌, ◌≤◌, ◌<◌, List, length, get_or, replicate, sym, refl, ap, ◌∙◌, subst, arith}
use Rattle.std.specs.Iterator.Adapters.{rev_source, enumerate_source, enumerate_count}
use Rattle.std.specs.Slice.Iter.{iter_rest}
use Rattle.std.specs.List.{push}
use Rattle.tables.specs.declared.entry.Entry.{Entry}
use Rattle.tables.specs.Depths.{hand_down, hand}
use Rattle.tables.specs.Lower.{Lower, Rooted}
use Rattle.tables.proofs.Handed.{HandedTo, handed_none, handed_all, within, lower, low, handed_more, length_down}
use Rattle.tables.proofs.terms.Terms.depths.Goals as goal

-- what a term may be handed down with, and what has been handed down then
record Turn (terms left' : List Entry) (ds : List ℕ) (e : Entry) (i : ℕ) : Type 0 where
  inside : i < 1024
  lower : Lower e i
  low : get_or ds i 0 ≤ 1024
  handed : HandedTo terms left' (hand e (get_or ds i 0) ds)

turn : (terms left left' : List Entry) (ds : List ℕ) (e : Entry) (i n : ℕ) → HandedTo terms left ds → length terms ≤ 1024 → Rooted terms → n ≡ 0 → left ≡ push left' e → i ≡ n + length left' → Turn terms left' ds e i
turn terms left left' ds e i n h few r z l p =
    let p' : i ≡ length left' = omega arith in
    let w : i < length terms = within terms left left' ds e i h l p' in
    record {
      inside = omega arith;
      lower = lower terms left left' ds e i h l p' r;
      low = low terms left left' ds e i h l p' few;
      handed = handed_more terms left left' ds e i h l p';
    }

pub hand_down-requires : goal.hand_down-requires
hand_down-requires c =
    let s = c.in-Some.ensures.steps.1 in
    let v = c.loop-i.invariant in
    let t = turn _ _ _ c.loop-i.depths c.in-Some.e.now c.in-Some.i _ v.4 c.args.self.now.terms_few c.args.self.now.rooted v.2 s.0 s.1 in
    record { long = v.3; inside = t.inside; lower = t.lower; low = t.low }

pub hand_down-requires-in-loop-i : goal.hand_down-requires-in-loop-i
hand_down-requires-in-loop-i c =
    let s = c.in-Some.ensures.steps.1 in
    let v = c.loop-i.invariant in
    let t = turn _ _ _ c.loop-i.depths c.in-Some.e.now c.in-Some.i _ v.4 c.args.self.now.terms_few c.args.self.now.rooted v.2 s.0 s.1 in
    record {
      long = ap length c.hand_down.ensures ∙ (length_down c.in-Some.e.now 0 _ c.loop-i.depths ∙ v.3);
      inside = t.inside;
      lower = t.lower;
      low = t.low;
    }

pub loop-i-init : goal.loop-i-init
loop-i-init c =
    let terms : List Entry = c.args.self.now.entries.now in
    let e : iter_rest (enumerate_source (rev_source c.into_iter-i-iterator.result)) ≡ terms = cc in
    let z : enumerate_count (rev_source c.into_iter-i-iterator.result) ≡ 0 = cc in
    let l = ap length e in
    ((tt, tt, omega (arith, c.args.self.now.terms_few)), tt, z, refl, subst (λ x. HandedTo terms x (replicate 1024 0)) (sym e) (handed_none terms))

pub loop-i-preserved : goal.loop-i-preserved
loop-i-preserved c =
    let s = c.in-Some.ensures.steps in
    let v = c.loop-i.invariant in
    let d : ℕ = get_or c.loop-i.depths c.in-Some.i 0 in
    let e : Entry = c.in-Some.e.now in
    let t = turn _ _ _ c.loop-i.depths e c.in-Some.i _ v.4 c.args.self.now.terms_few c.args.self.now.rooted v.2 s.1.0 s.1.1 in
    let after : c.hand_down-in-loop-i.new.depths ≡ hand e d c.loop-i.depths = c.hand_down-in-loop-i.ensures ∙ ap (hand_down e 1 d) c.hand_down.ensures in
    let l : length c.hand_down-in-loop-i.new.depths ≡ 1024 = ap length after ∙ (length_down e 1 d _ ∙ (length_down e 0 d c.loop-i.depths ∙ v.3)) in
    ((tt, tt, omega (arith, s.0, s.1.1, s.1.2)), tt, s.0 ∙ v.2, l, subst (λ x. HandedTo c.args.self.now.entries.now (iter_rest (enumerate_source (rev_source c.next.new.self))) x) (sym after) t.handed)

pub returns : goal.returns
returns c = handed_all _ _ _ c.loop-i.invariant.4 c.in-None.ensures.steps.1.0
