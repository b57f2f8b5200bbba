-- The word up to the next blank is the limit, and what stands behind it is read with it.
use Rattle.std.proofs.lemmas.Result.{err_from_is_err_and}
use Rattle.input.proofs.Parsing.{limit_wrong, limit_right}
use Rattle.input.proofs.hex.limited.Goals as goal

pub returns-in_err-limit_of : goal.returns-in_err-limit_of
returns-in_err-limit_of c =
    let same = err_from_is_err_and c.from_residual.result c.from_residual.ensures.1 in
    rw (same.1, same.2) (limit_wrong _ _ _ c.split_word.ensures.0 _ c.in_err-limit_of.ensures)

pub returns : goal.returns
returns c = limit_right _ _ _ c.split_word.ensures.0 _ _ _ _ c.in_ok-limit_of.ensures c.split_word.ensures.1 c.read_bytes.ensures
