-- By the kind of the segment that stands there, as in the definition; behind a program name one segment fewer is left, so the calls end.
use mathlib.Core.Path.{sym, ◌∙◌}
use borrow.Author.Tests.{ne_eqb}
use Rattle.path.proofs.Segments.{found_at}
use Rattle.path.proofs.TagPaths.{tag-other, tag-cut, tag-class, tag-symbol_object, tag_rest, tag_further, tag_last_lem, tag-plain, tag_program}
use Rattle.path.proofs.+is_tag_path.Goals as goal

pub returns-in_default : goal.returns-in_default
returns-in_default t c = tag-cut _ _ (sym c.in_default.ensures.is)

pub is_tag_path-requires : goal.is_tag_path-requires
is_tag_path-requires t c =
    let here = found_at _ _ _ _ _ c.in-Some.ensures.is c.in-Symbol.is in (
      tag_further _ _ c.requires _ _ here _ c.decreases,
      tag_rest _ _ c.requires _ _ here,
    )

pub returns-in-Symbol : goal.returns-in-Symbol
returns-in-Symbol t c =
    let here = found_at _ _ _ _ _ c.in-Some.ensures.is c.in-Symbol.is in
    c.is_tag_path.ensures ∙ tag_program _ _ c.requires _ _ here (sym c.if-is_program_name.ensures) c.if-step-path.true

pub returns-in-Symbol-2 : goal.returns-in-Symbol-2
returns-in-Symbol-2 t c =
    let here = found_at _ _ _ _ _ c.in-Some.ensures.is c.in-Symbol.is in
    tag-plain _ _ c.requires _ _ here (sym c.if-is_program_name.ensures)

pub returns-in-Symbol-2-2 : goal.returns-in-Symbol-2-2
returns-in-Symbol-2-2 t c =
    let here = found_at _ _ _ _ _ c.in-Some.ensures.is c.in-Symbol.is in
    tag_last_lem _ _ c.requires _ _ here c.if-step-path.false

pub returns-then-class-eq-SYMBOL_CLASS : goal.returns-then-class-eq-SYMBOL_CLASS
returns-then-class-eq-SYMBOL_CLASS t c =
    let here = found_at _ _ _ _ _ c.in-Some.ensures.is c.in-Class.is in
    c.is_some.ensures ∙ tag-symbol_object _ _ c.requires _ _ _ here c.instance_at.ensures c.if-class-eq-SYMBOL_CLASS.true

pub returns-else-class-eq-SYMBOL_CLASS : goal.returns-else-class-eq-SYMBOL_CLASS
returns-else-class-eq-SYMBOL_CLASS t c =
    let here = found_at _ _ _ _ _ c.in-Some.ensures.is c.in-Class.is in
    let other = ne_eqb _ _ c.if-class-eq-SYMBOL_CLASS.false in
    rw other (rw other at (tag-class _ _ c.requires _ _ here))

pub returns-in_default-segment : goal.returns-in_default-segment
returns-in_default-segment t c = tag-other _ _ _ _ c.in-Some.ensures.is c.in_default-segment.not-Class c.in_default-segment.not-Symbol
