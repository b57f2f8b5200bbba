-- What a line of input asks: an optional `@LIMIT`, then the request's bytes, two hex digits each; `#` starts a comment. Characters are ASCII.
use Rattle.std.specs.Prelude.{◌≡◌, Bool, List, [], ◌∷◌, ◌++◌, ℕ, suc, ◌+◌, ◌-◌, ◌*◌, ltb, leb, eqb, length, drop}
use Rattle.std.specs.Prelude.{Option, Some, None, Result, Ok, Err}
use Rattle.laws.specs.Pick.{pick, both, either, is_some}
use Rattle.laws.specs.Put.{put}
use Rattle.laws.specs.Tests.{every, stretch}
use Rattle.input.specs.Text.{up_to}
use Rattle.input.specs.declared.hex.Fault.{Fault}
use Rattle.input.specs.declared.hex.Fault.TheVariants.{Digit, Odd, NoNumber, OverLimit, TooLong}
use Rattle.input.specs.declared.hex.Request.{Request}

-- nothing, a request's limit and number of bytes, or what keeps the line from being a request
abbrev pub Asks : Type 0
Asks = Result (Option Request) Fault

abbrev pub asks_for : (limit n : ℕ) → Asks
asks_for limit n = Ok (Some (record { limit = limit; len = n }))

-- what a line asks, and the bytes that were read of it: all of a request, those before the fault of a wrong line
pub record Parsed : Type 0 where
  pub asks : Asks
  pub bytes : List ℕ

abbrev pub ends : Asks → Parsed
ends x = record { asks = x; bytes = [] }

abbrev pub behind : List ℕ → Parsed → Parsed
behind l p = record { asks = p.asks; bytes = l ++ p.bytes }

-- ---- characters

abbrev pub between : (low high c : ℕ) → Bool
between low high c = both (leb low c) (leb c high)

-- a tab, a carriage return, a space
abbrev pub is_blank : ℕ → Bool
is_blank c = either (eqb c 0x09) (either (eqb c 0x0D) (eqb c 0x20))

abbrev pub is_decimal : ℕ → Bool
is_decimal c = between 0x30 0x39 c

-- a hex digit's value: 0 to 9, A to F, a to f
unfoldable pub digit_of : ℕ → Option ℕ
digit_of c =
    pick (between 0x30 0x39 c) (Some (c - 0x30))
    (pick (between 0x41 0x46 c) (Some (c - 0x41 + 10)) (pick (between 0x61 0x66 c) (Some (c - 0x61 + 10)) None))

-- the text up to its first blank
abbrev pub word_in : List ℕ → List ℕ
word_in text = stretch is_blank text

-- the text from the first character on that is no blank
unfoldable pub after_blanks : List ℕ → List ℕ
after_blanks [] = []
after_blanks (c ∷ text) = pick (is_blank c) (after_blanks text) (c ∷ text)

-- ---- the limit: one decimal digit or more, and their number

unfoldable pub is_number : List ℕ → Bool
is_number word = both (every is_decimal word) (ltb 0 (length word))

unfoldable pub number : (so_far : ℕ) → List ℕ → ℕ
number n [] = n
number n (c ∷ word) = number (10 * n + (c - 0x30)) word

unfoldable pub limit_of : List ℕ → Result ℕ Fault
limit_of word = pick (is_number word) (pick (ltb 65535 (number 0 word)) (Err OverLimit) (Ok (number 0 word))) (Err NoNumber)

-- ---- the bytes

abbrev pub with_digit : Option ℕ → (ℕ → Result ℕ Fault) → Result ℕ Fault
with_digit None f = Err Digit
with_digit (Some d) f = f d

-- the byte of two hex digits, unless one is no hex digit, or the second is missing
unfoldable pub byte_of : (high low : ℕ) → Result ℕ Fault
byte_of high low = with_digit (digit_of high) (λ h. pick (is_blank low) (Err Odd) (with_digit (digit_of low) (λ l. Ok (16 * h + l))))

-- what is wrong with the last character, where a byte ought to stand
abbrev pub lone_fault : ℕ → Fault
lone_fault c = pick (is_some (digit_of c)) Odd Digit

-- a byte that there is room for, and what follows it
abbrev pub with_byte : Result ℕ Fault → (full : Bool) → Parsed → Parsed
with_byte (Err f) full rest = ends (Err f)
with_byte (Ok b) full rest = pick full (ends (Err TooLong)) (behind (b ∷ []) rest)

-- a request of n bytes so far goes on with this text; it has room for `most` of them
unfoldable pub bytes_in : (limit most n : ℕ) → List ℕ → Parsed
bytes_in limit most n [] = ends (asks_for limit n)
bytes_in limit most n (high ∷ []) = pick (is_blank high) (ends (asks_for limit n)) (ends (Err (lone_fault high)))
bytes_in limit most n (high ∷ low ∷ text) =
    pick (is_blank high) (bytes_in limit most n (low ∷ text)) (with_byte (byte_of high low) (leb most n) (bytes_in limit most (suc n) text))

-- ---- the line

abbrev pub with_limit : Result ℕ Fault → (ℕ → Parsed) → Parsed
with_limit (Err f) g = ends (Err f)
with_limit (Ok limit) g = g limit

-- behind an `@`: the limit up to the next blank, and then the bytes
unfoldable pub limited_by : (most : ℕ) → List ℕ → Parsed
limited_by most text = let word = word_in text in with_limit (limit_of word) (λ limit. bytes_in limit most 0 (drop (length word) text))

-- a line without its comment; the usual limit is 500
unfoldable pub asked_by : (most : ℕ) → List ℕ → Parsed
asked_by most [] = ends (Ok None)
asked_by most (c ∷ text) =
    pick (is_blank c) (asked_by most text) (pick (eqb c 0x40) (limited_by most text) (bytes_in 500 most 0 (c ∷ text)))

-- a line, read into a buffer of `most` bytes
unfoldable pub parsed : (most : ℕ) → List ℕ → Parsed
parsed most line = asked_by most (up_to 0x23 line)

-- ---- what the code leaves

-- the line asks this, and the bytes that were read stand at the buffer's start
pub record ReadsLine (p : Parsed) (old : List ℕ) (r : Asks) (new : List ℕ) : Type 0 where
  pub asks_is : r ≡ p.asks
  pub buffer_is : new ≡ put old 0 p.bytes
