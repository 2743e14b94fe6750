use Rattle.std.proofs.Common.{get_or, sym, ◌∙◌, arith}
use Rattle.tables.specs.declared.entry.Entry.{Entry}
use Rattle.runs.specs.Reach.{no_entry}
use Rattle.runs.proofs.Copying.{within_le, first_lower, some_named, two_named, second_lower, first_copiable, second_copiable}
use Rattle.runs.proofs.Tallying.{none_shared, none_leaf, count_one, count_two}
use Rattle.runs.proofs.copy.Putting.+count.Goals as goal

pub returns-then-depth-self : goal.returns-then-depth-self
returns-then-depth-self t c =
    let s = none_shared c.args.self c.args.depth c.args.at c.requires.form c.if-depth-self.true in
    omega arith

pub returns-then-n-eq0 : goal.returns-then-n-eq0
returns-then-n-eq0 t c =
    let s = none_leaf c.args.self c.args.depth c.args.at c.requires.form c.if-depth-self.false (sym c.named_terms-n.ensures ∙ c.if-n-eq0.true) in
    omega arith

pub count-a-requires : goal.count-a-requires
count-a-requires t c =
    let e : Entry = get_or c.args.self.used.now.terms.now c.args.at no_entry in
    let z = some_named c.args.self c.args.depth c.args.at c.requires.form c.named_terms-n.result c.named_terms-n.ensures c.if-n-eq0.false in
    let l = first_lower c.args.self c.args.depth c.args.at c.requires.form z in
    let m = first_copiable c.args.self c.args.depth c.args.at c.requires.form c.depth_within.result c.depth_within.ensures z in
    let k = within_le e.tag 0 c.args.depth in
    (omega arith, (m, omega arith))

pub returns-then-n-eq1 : goal.returns-then-n-eq1
returns-then-n-eq1 t c =
    let s = count_one c.args.self c.args.depth c.args.at c.requires.form
    c.depth_within.result c.if-depth-self.false (sym c.named_terms-n.ensures ∙ c.if-n-eq1.true) c.depth_within.ensures in
    omega arith

pub count-b-requires : goal.count-b-requires
count-b-requires t c =
    let e : Entry = get_or c.args.self.used.now.terms.now c.args.at no_entry in
    let o = two_named c.args.self c.args.depth c.args.at c.requires.form c.named_terms-n.result c.named_terms-n.ensures c.if-n-eq0.false c.if-n-eq1.false in
    let l = second_lower c.args.self c.args.depth c.args.at c.requires.form o in
    let m = second_copiable c.args.self c.args.depth c.args.at c.requires.form c.depth_within-2.result c.depth_within-2.ensures o in
    let k = within_le e.tag 1 c.args.depth in
    (omega arith, (m, omega arith))

pub returns : goal.returns
returns t c =
    let o = two_named c.args.self c.args.depth c.args.at c.requires.form c.named_terms-n.result c.named_terms-n.ensures c.if-n-eq0.false c.if-n-eq1.false in
    let s = count_two c.args.self c.args.depth c.args.at c.requires.form
    c.depth_within.result c.depth_within-2.result c.if-depth-self.false o c.depth_within.ensures c.depth_within-2.ensures in
    omega arith
