-- The bytes before `len` are read, and the definition goes on with the text from the next character that is no blank.
use Rattle.std.proofs.lemmas.Result.{err_from_is_err_and}
use Rattle.input.proofs.Parsing.{going_start, going_fault, going_full, going_less, going_more, going_odd, going_end}
use Rattle.input.proofs.hex.read_bytes.Goals as goal

pub loop-rest-init : goal.loop-rest-init
loop-rest-init c = going_start _ _ _ _ c.after_blanks-rest.ensures

pub returns-in_err-byte : goal.returns-in_err-byte
returns-in_err-byte c =
    let same = err_from_is_err_and c.from_residual.result c.from_residual.ensures.1 in
    rw (same.1, same.2) (going_fault _ _ _ _ _ _ c.loop-rest.invariant _ c.in-len2-up.len_at_least c.in_err-byte.ensures)

pub returns-then-len-request : goal.returns-then-len-request
returns-then-len-request c =
    going_full _ _ _ _ _ _ c.loop-rest.invariant _ c.in-len2-up.len_at_least c.in_ok-byte.ensures c.if-len-request.true

pub loop-rest-smaller : goal.loop-rest-smaller
loop-rest-smaller c = going_less _ _ c.in-len2-up.len_at_least c.after_blanks-rest-in-len2-up.ensures

pub loop-rest-preserved : goal.loop-rest-preserved
loop-rest-preserved c =
    going_more _ _ _ _ _ _ c.loop-rest.invariant _ c.in-len2-up.len_at_least c.in_ok-byte.ensures _ c.if-len-request.false
    c.after_blanks-rest-in-len2-up.ensures

pub returns-in-empty : goal.returns-in-empty
returns-in-empty c = going_end _ _ _ _ _ _ c.loop-rest.invariant c.in-empty.len_below

pub returns-in-len1-up : goal.returns-in-len1-up
returns-in-len1-up c =
    rw c.lone_fault.ensures (going_odd _ _ _ _ _ _ c.loop-rest.invariant c.in-len1-up.len_at_least c.in_default.len_below)
