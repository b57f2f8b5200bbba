-- What is joined and what is left make up all entries, and what is left ends with the same page; a page that is not the last leaves something.
use Rattle.std.proofs.Common.{Fits, w32, rules, arith, sym, refl, ◌∙◌}
use Rattle.model.proofs.Lent.{some-valid}
use Rattle.whole.proofs.Brought.{turn_taken}
use Rattle.whole.proofs.Paging.{page_holds, page_turn, joins-behind, due-some, joins-none, joins_further}
use Rattle.whole.proofs.Paging.{joins_on, joins_last, joins_left, page_walked, page_stays, starts_known}
use Rattle.whole.proofs.Paging.{starts_nowhere, tables_asked}
use Rattle.whole.proofs.pages.join_pages.Goals as goal

pub loop-end-init : goal.loop-end-init
loop-end-init c =
    let id : Fits w32 c.args.first.now.start.id = search rules in
    (refl, (refl, refl), refl, joins-none _ _ _ c.requires.2, id.fits)

pub join-requires : goal.join-requires
join-requires c =
    let l = c.loop-end.invariant in
    record {
      taken = turn_taken _ _ c.requires.0 l.0 l.1.1;
      holds = rw l.2 (page_holds _ c.requires.0 c.requires.1 l.3 c.requires.3 l.4 l.0);
    }

pub returns-in-Last : goal.returns-in-Last
returns-in-Last c =
    let l = c.loop-end.invariant in
    let p = page_turn _ c.requires.0 c.requires.1 l.3 c.requires.3 l.4 l.0 _ c.join.ensures.joined c.join.ensures.buffer in (
      joins_last l.3 c.requires.3 p.0 _ c.in-Last.is,
      c.join.ensures.memory ∙ l.0,
      page_stays l.3 c.requires.3 p.0 _ _ _ l.1 c.requires.0.has_room p.1 _ c.in-Last.is,
    )

pub overflow_add-end : goal.overflow_add-end
overflow_add-end c =
    let l = c.loop-end.invariant in
    let p = page_turn _ c.requires.0 c.requires.1 l.3 c.requires.3 l.4 l.0 _ c.join.ensures.joined c.join.ensures.buffer in
    let b = (joins-behind l.3 c.requires.3 p.0 _ _ (due-some _ _ _ _) c.in-More.is refl).1 in
    let h = c.requires.0.limit_fits in
    search rules

pub next_start-requires : goal.next_start-requires
next_start-requires c =
    let l = c.loop-end.invariant in
    let p = page_turn _ c.requires.0 c.requires.1 l.3 c.requires.3 l.4 l.0 _ c.join.ensures.joined c.join.ensures.buffer in
    let b = (joins-behind l.3 c.requires.3 p.0 _ _ (due-some _ _ _ _) c.in-More.is refl).1 in
    (some-valid _ _ _ c.requires.0.tables refl, omega arith, omega (arith, b, c.requires.0.has_room, l.1.1, c.join.auto))

pub returns-in_default : goal.returns-in_default
returns-in_default c =
    let l = c.loop-end.invariant in
    let p = page_turn _ c.requires.0 c.requires.1 l.3 c.requires.3 l.4 l.0 _ c.join.ensures.joined c.join.ensures.buffer in
    let b = (joins-behind l.3 c.requires.3 p.0 _ _ (due-some _ _ _ _) c.in-More.is refl).0 in
    absurd (joins_left l.3 c.requires.3 p.0 _ c.in-More.is (sym b
    ∙ starts_nowhere _ _ _ _ _ _ _ (c.next_start.ensures.starts (tables_asked c.requires.0) _ c.requires.0.tables) c.in_default.is))

pub loop-end-smaller : goal.loop-end-smaller
loop-end-smaller c =
    let l = c.loop-end.invariant in
    let p = page_turn _ c.requires.0 c.requires.1 l.3 c.requires.3 l.4 l.0 _ c.join.ensures.joined c.join.ensures.buffer in
    let b = joins_further l.3 c.requires.3 p.0 _ c.in-More.is in
    omega (arith, b.0, b.1)

pub loop-end-preserved : goal.loop-end-preserved
loop-end-preserved c =
    let l = c.loop-end.invariant in
    let p = page_turn _ c.requires.0 c.requires.1 l.3 c.requires.3 l.4 l.0 _ c.join.ensures.joined c.join.ensures.buffer in
    let b = joins-behind l.3 c.requires.3 p.0 _ _ (due-some _ _ _ _) c.in-More.is refl in
    let id : Fits w32 c.in-Some.next = search rules in (
      c.join.ensures.memory ∙ l.0,
      page_walked l.3 c.requires.3 p.0 _ _ _ l.1 c.requires.0.has_room p.1 _ _ b.1 c.next_start.ensures.kept,
      omega (arith, c.join.auto, l.2),
      joins_on l.3 c.requires.3 p.0 _ _ c.in-More.is
          (starts_known _ _ _ _ _ _ _ (c.next_start.ensures.starts (tables_asked c.requires.0) _ c.requires.0.tables) _ c.in-Some.is ∙ b.0),
      id.fits,
    )
