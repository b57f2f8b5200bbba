-- What was measured decides, as in the definition; the last page stays in the buffer.
use Rattle.std.proofs.Common.{rules, refl, []}
use Rattle.model.proofs.Lent.{some-valid}
use Rattle.whole.proofs.Paging.{tables_asked}
use Rattle.whole.proofs.Outcomes.{list_tiny, list_narrow, list_fits, list_short, list_joined}
use Rattle.whole.proofs.lists.list_granted.Goals as goal

pub returns-then-limit-lt-HEADER-clause-whole : goal.returns-then-limit-lt-HEADER-clause-whole
returns-then-limit-lt-HEADER-clause-whole c = list_tiny c.requires.granted c.requires.first _ _ _ _ c.if-limit-lt-HEADER.true

pub measured-requires : goal.measured-requires
measured-requires c = (some-valid _ _ _ c.requires.taken.tables refl, search rules, c.requires.taken.limit_fits)

pub returns-in_default-clause-whole : goal.returns-in_default-clause-whole
returns-in_default-clause-whole c =
    let m = c.measured.ensures (tables_asked c.requires.taken) _ c.requires.taken.tables in
    list_narrow c.requires.granted c.requires.first _ _ _ _ m c.in_default.is

pub returns-then-out-total-clause-whole : goal.returns-then-out-total-clause-whole
returns-then-out-total-clause-whole c =
    let m = c.measured.ensures (tables_asked c.requires.taken) _ c.requires.taken.tables in
    list_short c.requires.granted c.requires.first _ _ _ _ m c.in-Some.is c.if-out-total.true

pub join_pages-requires : goal.join_pages-requires
join_pages-requires c =
    let m = c.measured.ensures (tables_asked c.requires.taken) _ c.requires.taken.tables in
    let a = list_fits c.requires.granted c.requires.first [] _ [] c.args.out.now m c.in-Some.is c.if-out-total.false in
    (c.requires.taken, c.requires.granted, a.0, a.1)

pub returns-clause-whole : goal.returns-clause-whole
returns-clause-whole c =
    let m = c.measured.ensures (tables_asked c.requires.taken) _ c.requires.taken.tables in
    list_joined c.requires.granted c.requires.first _ _ _ _ m c.in-Some.is c.if-out-total.false c.join_pages.ensures.0 c.join_pages.ensures.2
