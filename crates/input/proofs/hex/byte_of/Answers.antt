-- What is found of each digit decides as in the definition; two values below 16 make a byte.
use mathlib.Core.Path.{sym, ◌∙◌}
use native.Mathlib.Omega.{arith}
use Rattle.std.proofs.lemmas.Result.{err_from_is_err_and}
use Rattle.input.proofs.Digits.{small_digits, no_high, no_second, as_second, no_low, whole_byte}
use Rattle.input.proofs.hex.byte_of.Goals as goal

pub returns-in_err-h : goal.returns-in_err-h
returns-in_err-h c =
    let same = err_from_is_err_and c.from_residual.result c.from_residual.ensures.1 in
    rw (same.1, same.2) (no_high c.args.high c.args.low _ c.digit.ensures _ c.in_err-h.ensures.value)

pub returns-then-is_blank : goal.returns-then-is_blank
returns-then-is_blank c =
    no_second c.args.high c.args.low _ c.digit.ensures _ c.in_ok-h.ensures.value (sym c.is_blank.ensures ∙ c.if-is_blank.true)

pub returns-in_err-l : goal.returns-in_err-l
returns-in_err-l c =
    let same = err_from_is_err_and c.from_residual-in_err-l.result c.from_residual-in_err-l.ensures.1 in
    let blank = sym c.is_blank.ensures ∙ c.if-is_blank.false in
    let first = as_second c.args.high c.args.low _ c.digit.ensures _ c.in_ok-h.ensures.value blank in
    rw (same.1, same.2) (no_low c.args.high c.args.low c.in_ok-h.h first _ c.digit-2.ensures _ c.in_err-l.ensures.value)

pub overflow_mul-result : goal.overflow_mul-result
overflow_mul-result c =
    omega (arith, small_digits _ _ _ c.digit.ensures _ c.digit-2.ensures _ _ c.in_ok-h.ensures.value c.in_ok-l.ensures.value)

pub overflow_add-result : goal.overflow_add-result
overflow_add-result c =
    omega (arith, small_digits _ _ _ c.digit.ensures _ c.digit-2.ensures _ _ c.in_ok-h.ensures.value c.in_ok-l.ensures.value)

pub overflow_cast-result : goal.overflow_cast-result
overflow_cast-result c =
    omega (arith, small_digits _ _ _ c.digit.ensures _ c.digit-2.ensures _ _ c.in_ok-h.ensures.value c.in_ok-l.ensures.value)

pub returns : goal.returns
returns c =
    let blank = sym c.is_blank.ensures ∙ c.if-is_blank.false in
    let first = as_second c.args.high c.args.low _ c.digit.ensures _ c.in_ok-h.ensures.value blank in
    whole_byte c.args.high c.args.low c.in_ok-h.h first _ c.digit-2.ensures c.in_ok-l.l c.in_ok-l.ensures.value
