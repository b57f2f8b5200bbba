-- Each row so far passes against those behind it, so the test of the rest is the test of all.
use Rattle.tables.proofs.Facts.{pairs_on, pairs_off, pairs_all}
use Rattle.tables.proofs.each_pair.Goals as goal

pub returns-then-not-passes_all : goal.returns-then-not-passes_all
returns-then-not-passes_all g c p is =
    pairs_off p _ _ (c.loop-row.invariant p is) _ _ _ c.in-Some.ensures.cases.0 (c.passes_all.ensures p is) c.if-not-passes_all.true

pub loop-row-preserved : goal.loop-row-preserved
loop-row-preserved g c p is =
    pairs_on p _ _ (c.loop-row.invariant p is) _ _ _ c.in-Some.ensures.cases.0 (c.passes_all.ensures p is) c.if-not-passes_all.false

pub returns : goal.returns
returns g c p is = pairs_all p _ _ (c.loop-row.invariant p is) c.in_default.ensures.cases
