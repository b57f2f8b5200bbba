-- The keys by which rows are sorted, as spans of numbers: rows whose spans keep apart have different names, different IDs, or no byte in common.
use Rattle.std.specs.Borrow.{Bor}
use Rattle.std.specs.Prelude.{◌≡◌, Bool, List, [], ℕ, ◌+◌, ◌*◌, ◌-◌, ◌%◌, ltb, length, get_or, fold}
use Rattle.laws.specs.Pick.{pick, both}
use Rattle.laws.specs.Tests.{every, pairs}
use Rattle.definition.specs.Names.{lower}
use Rattle.definition.specs.Tables.{Tables, Row, tag_scope, tag_name, tag_id, tag_offset}
use Rattle.definition.specs.Valid.{ids_differ, end_in}
use Rattle.rows.specs.Judged.{tag_pair, tag_other}
use Rattle.spread.specs.declared.Span.{Span}

-- ---- names: a number of a scope and a name, the same for names that agree

-- in 64 bits
abbrev pub mixed : ℕ → ℕ → ℕ
mixed h b = (h * 65599 % 18446744073709551616 + lower b) % 18446744073709551616

unfoldable pub name_key : (scope : ℕ) → List ℕ → ℕ
name_key scope name = fold mixed scope name

-- of a tag or another symbol, by the store that has its name: 47 bits
abbrev pub symbol_key : (names : List ℕ) → Row → ℕ
symbol_key names r = name_key (tag_scope r) (tag_name names r) % 140737488355328

-- a tag keeps its number's two places from every symbol; another symbol, which stands between them, from tags only
abbrev pub tag_span : (tag_names : List ℕ) → Row → Span
tag_span tag_names r = record { first = 2 * symbol_key tag_names r; end = 2 * symbol_key tag_names r + 2 }

abbrev pub other_span : (names : List ℕ) → Row → Span
other_span names r = record { first = 2 * symbol_key names r + 1; end = 2 * symbol_key names r + 1 }

-- ---- IDs, and the bytes of a tag

abbrev pub id_key : Row → ℕ
id_key r = tag_id r * 32 + tag_scope r % 32

abbrev pub id_span : Row → Span
id_span r = record { first = id_key r; end = id_key r + 1 }

abbrev pub byte_span : (structures : List Row) → Row → Span
byte_span structures r = record { first = tag_offset r; end = end_in structures r }

-- ---- all symbols, the tags first

-- what a function says of a row's span is what f says
abbrev pub SpansBy : (post : Bor Row → Span → Type 0) → (f : Row → Span) → Type 0
SpansBy post f = (row : Bor Row) (s : Span) → post row s → s ≡ f row.now

unfoldable pub of_symbol : {A : Type 0} (f g : Row → A) (tags others : List Row) → ℕ → A
of_symbol f g tags others k = pick (ltb k (length tags)) (f (get_or tags k [])) (g (get_or others (k - length tags) []))

-- each two symbols by all the tests
unfoldable pub symbols_judged : Tables → Bool
symbols_judged t =
    both (pairs (tag_pair t.structures t.tag_names) t.tags)
    (both (every (λ r. every (tag_other t.tag_names t.names r) t.others) t.tags) (pairs ids_differ t.others))
