-- Offsets in order start behind themselves, do not fall back and do not pass the end, so a part lies in the body and is shorter.
use Rattle.logix.proofs.Offsets.{marks}
use Rattle.logix.proofs.body.Parts.part.Goals as goal

pub slice_bounds-result-count : goal.slice_bounds-result-count
slice_bounds-result-count c = search marks

pub slice_bounds-result-start : goal.slice_bounds-result-start
slice_bounds-result-start c = search marks

pub slice_bounds-result-end : goal.slice_bounds-result-end
slice_bounds-result-end c = search marks

pub returns : goal.returns
returns c = search marks
