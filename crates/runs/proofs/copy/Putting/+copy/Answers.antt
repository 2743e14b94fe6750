use Rattle.std.proofs.Common.{sym, ◌∙◌, get_or, arith}
use Rattle.tables.specs.declared.entry.Entry.{Entry}
use Rattle.runs.specs.Reach.{no_entry}
use Rattle.runs.proofs.Copying.{within_le, first_lower, some_named, two_named, second_lower, first_copiable, second_copiable}
use Rattle.runs.proofs.Tabling.{shares, puts, first_room, after_first, one_done, second_room, after_second, two_done}
use Rattle.runs.proofs.copy.Putting.+copy.Goals as goal

pub returns-then-self-at : goal.returns-then-self-at
returns-then-self-at t c = shares c.args.self c.args.depth c.args.at c.requires.form c.args.room.now c.requires.room c.if-self-at.true

pub returns-then-n-eq0 : goal.returns-then-n-eq0
returns-then-n-eq0 t c = puts c.args.self c.args.depth c.args.at c.requires.form c.args.room.now c.requires.room c.if-self-at.false (sym c.named_terms-n.ensures ∙ c.if-n-eq0.true)

pub copy-a-requires : goal.copy-a-requires
copy-a-requires t c =
    let e : Entry = get_or c.args.self.used.now.terms.now c.args.at no_entry in
    let z = some_named c.args.self c.args.depth c.args.at c.requires.form c.named_terms-n.result c.named_terms-n.ensures c.if-n-eq0.false in
    let l = first_lower c.args.self c.args.depth c.args.at c.requires.form z in
    let m = first_copiable c.args.self c.args.depth c.args.at c.requires.form c.depth_within.result c.depth_within.ensures z in
    let r = first_room c.args.self c.args.depth c.args.at c.requires.form c.args.room.now c.requires.room c.depth_within.result c.if-self-at.false z c.depth_within.ensures in
    let k = within_le e.tag 0 c.args.depth in
    (omega arith, (m, (omega arith, omega arith)))

pub append-requires : goal.append-requires
append-requires t c =
    let z = some_named c.args.self c.args.depth c.args.at c.requires.form c.named_terms-n.result c.named_terms-n.ensures c.if-n-eq0.false in
    after_first c.args.self c.args.depth c.args.at c.requires.form c.args.room.now c.requires.room c.depth_within.result c.copy-a.new.room c.copy-a.result c.if-self-at.false z c.depth_within.ensures c.copy-a.ensures

pub returns-then-n-eq1 : goal.returns-then-n-eq1
returns-then-n-eq1 t c =
    let z = some_named c.args.self c.args.depth c.args.at c.requires.form c.named_terms-n.result c.named_terms-n.ensures c.if-n-eq0.false in
    one_done c.args.self c.args.depth c.args.at c.requires.form c.args.room.now c.requires.room c.depth_within.result c.copy-a.new.room c.copy-a.result c.if-self-at.false z c.depth_within.ensures c.copy-a.ensures
    c.append.new.self c.append.result c.renew.result (sym c.named_terms-n.ensures ∙ c.if-n-eq1.true) c.renew.ensures c.append.ensures

pub copy-b-requires : goal.copy-b-requires
copy-b-requires t c =
    let e : Entry = get_or c.args.self.used.now.terms.now c.args.at no_entry in
    let z = some_named c.args.self c.args.depth c.args.at c.requires.form c.named_terms-n.result c.named_terms-n.ensures c.if-n-eq0.false in
    let o = two_named c.args.self c.args.depth c.args.at c.requires.form c.named_terms-n.result c.named_terms-n.ensures c.if-n-eq0.false c.if-n-eq1.false in
    let l = second_lower c.args.self c.args.depth c.args.at c.requires.form o in
    let m = second_copiable c.args.self c.args.depth c.args.at c.requires.form c.depth_within-2.result c.depth_within-2.ensures o in
    let r = second_room c.args.self c.args.depth c.args.at c.requires.form c.args.room.now c.requires.room c.depth_within.result c.copy-a.new.room c.copy-a.result c.if-self-at.false z c.depth_within.ensures c.copy-a.ensures
    c.depth_within-2.result o c.depth_within-2.ensures in
    let k = within_le e.tag 1 c.args.depth in
    (omega arith, (m, (omega arith, omega arith)))

pub append-requires-2 : goal.append-requires-2
append-requires-2 t c =
    let z = some_named c.args.self c.args.depth c.args.at c.requires.form c.named_terms-n.result c.named_terms-n.ensures c.if-n-eq0.false in
    let o = two_named c.args.self c.args.depth c.args.at c.requires.form c.named_terms-n.result c.named_terms-n.ensures c.if-n-eq0.false c.if-n-eq1.false in
    after_second c.args.self c.args.depth c.args.at c.requires.form c.args.room.now c.requires.room c.depth_within.result c.copy-a.new.room c.copy-a.result c.if-self-at.false z c.depth_within.ensures c.copy-a.ensures
    c.depth_within-2.result o c.depth_within-2.ensures c.copy-b.new.room c.copy-b.result c.copy-b.ensures

pub returns : goal.returns
returns t c =
    let z = some_named c.args.self c.args.depth c.args.at c.requires.form c.named_terms-n.result c.named_terms-n.ensures c.if-n-eq0.false in
    let o = two_named c.args.self c.args.depth c.args.at c.requires.form c.named_terms-n.result c.named_terms-n.ensures c.if-n-eq0.false c.if-n-eq1.false in
    two_done c.args.self c.args.depth c.args.at c.requires.form c.args.room.now c.requires.room c.depth_within.result c.copy-a.new.room c.copy-a.result c.if-self-at.false z c.depth_within.ensures c.copy-a.ensures
    c.depth_within-2.result o c.depth_within-2.ensures
    c.copy-b.new.room c.append-2.new.self c.copy-b.result c.append-2.result c.renew-2.result c.copy-b.ensures c.renew-2.ensures c.append-2.ensures
