-- Hex and decimal digits: their values, two hex digits as a byte, and a word of decimal digits as `parse` reads it.
-- Assumes nothing.
use mathlib.Core.Path.{◌≡◌, refl, sym, ap, ◌∙◌}
use mathlib.Core.Logic.{◌≢◌}
use mathlib.Core.Bool.{Bool, true, false, not}
use mathlib.Core.List.{List, [], ◌∷◌}
use Prim.Native.Nat.{ℕ, ◌+◌, ◌-◌, ◌*◌, ◌<◌, ◌≤◌}
use native.Mathlib.Omega.{arith}
use lib.Dec.{ltb, leb, eqb}
use lib.ListN.{length, get_or, get_or-eq_default}
use borrow.Author.Tests.{lt-leb, lt-ltb, le-ltb, le-leb, leb-true, ltb-true, ltb-false, eqb-true, eqb-false, ne_eqb}
use Rattle.std.specs.Prelude.{Option, Some, None, Result, Ok, Err}
use Rattle.std.specs.Option.{SomeIff, ok_or}
use Rattle.std.specs.Result.{MatchResult, IsOk}
use denote.Ref.{Bor}
use Rattle.std.specs.Char.{digit_value, is_ascii_digit}
use Rattle.std.specs.Str.{IsUtf8}
use Rattle.std.specs.Str.Parse.{AllDigits, digits_value_after, without_leading_plus, ParsesUnsigned}
use Rattle.std.proofs.lemmas.Str.{IsUtf8-from_ascii}
use Rattle.laws.specs.Pick.{both}
use Rattle.laws.specs.Tests.{every}
use Rattle.laws.proofs.Tests.{every_at, both-none}
use Rattle.laws.proofs.Chain.{by_test, both_on, both_off, both_off_2}
use Rattle.laws.proofs.Tests.{both_true}
use Rattle.input.specs.declared.hex.Fault.{Fault}
use Rattle.input.specs.declared.hex.Fault.TheVariants.{Digit, Odd, OverLimit}
use Rattle.input.specs.Lines.{between, is_blank, is_decimal, digit_of, is_number, number, limit_of, with_digit, byte_of}

-- ---- a hex digit

in_range : (low high c : ℕ) → low ≤ c → c ≤ high → between low high c ≡ true
in_range low high c l h = both_on _ _ (le-leb low c l) (le-leb c high h)

under : (low high c : ℕ) → c < low → between low high c ≡ false
under low high c h = both_off _ _ (lt-leb low c h)

over : (low high c : ℕ) → high < c → between low high c ≡ false
over low high c h = both_off_2 (leb low c) _ (lt-leb c high h)

-- what `to_digit` finds: a value below 16, if there is one
said : (r : Option ℕ) (v : ℕ) → SomeIff r (v < 16) v → v < 16 → r ≡ Some v
said (Some x) v s h = ap Some s.1
said None v s h = absurd (s h)

said_none : (r : Option ℕ) (v : ℕ) → SomeIff r (v < 16) v → 16 ≤ v → r ≡ None
said_none (Some x) v s h = absurd (omega (arith, s.0))
said_none None v s h = refl

module _ (c : ℕ) where
  -- no hex digit
  none_of : between 0x30 0x39 c ≡ false → between 0x41 0x46 c ≡ false → between 0x61 0x66 c ≡ false → digit_of c ≡ None
  unfolding digit_of
  none_of d u l = rw (d, u, l) refl

  module _ (r : Option ℕ) (s : SomeIff r (digit_value c < 16) (digit_value c)) where
    nothing : digit_of c ≡ None → 16 ≤ digit_value c → r ≡ digit_of c
    nothing d h = said_none r (digit_value c) s h ∙ sym d

    from_65 : 65 ≤ c → r ≡ digit_of c
    unfolding digit_of
    from_65 g =
        let below = le-ltb c 65 g in
        let first = le-ltb c 58 (omega arith) in
        let start = le-ltb c 48 (omega arith) in
        by_test (ltb c 71)
        (λ t. let h = ltb-true c 71 t in
        let n : c - 55 ≡ c - 65 + 10 = omega arith in
        let v : digit_value c ≡ c - 55 = rw (start, first, below, lt-ltb c 91 (omega arith)) refl in
        said r (digit_value c) s (omega arith) ∙ ap Some (v ∙ n) ∙ sym (rw (over 48 57 c (omega arith), in_range 65 70 c g (omega arith)) refl))
        (λ t. let h = ltb-false c 71 t in
        by_test (ltb c 97)
        (λ q. let b = ltb-true c 97 q in
        nothing (none_of (over 48 57 c (omega arith)) (over 65 70 c (omega arith)) (under 97 102 c b))
        (by_test (ltb c 91) (λ w. rw (start, first, below, w) (omega arith)) (λ w. rw (start, first, below, w, q) (omega arith))))
        (λ q. let b = ltb-false c 97 q in
        let capital = le-ltb c 91 (omega arith) in
        by_test (ltb c 103)
        (λ w. let a = ltb-true c 103 w in
        let n : c - 87 ≡ c - 97 + 10 = omega arith in
        let v : digit_value c ≡ c - 87 = rw (start, first, below, capital, q, lt-ltb c 123 (omega arith)) refl in
        said r (digit_value c) s (omega arith) ∙ ap Some (v ∙ n)
        ∙ sym (rw (over 48 57 c (omega arith), over 65 70 c (omega arith), in_range 97 102 c b (omega arith)) refl))
        (λ w. let a = ltb-false c 103 w in
        nothing (none_of (over 48 57 c (omega arith)) (over 65 70 c (omega arith)) (over 97 102 c a))
        (by_test (ltb c 123) (λ z. rw (start, first, below, capital, q, z) (omega arith)) (λ z. rw (start, first, below, capital, q, z) (omega arith))))))

    pub hex_digit : r ≡ digit_of c
    unfolding digit_of
    hex_digit =
        by_test (ltb c 48)
        (λ t. let h = ltb-true c 48 t in
        nothing (none_of (under 48 57 c h) (under 65 70 c (omega arith)) (under 97 102 c (omega arith))) (rw t (omega arith)))
        (λ t. let h = ltb-false c 48 t in
        by_test (ltb c 58)
        (λ u. let g = ltb-true c 58 u in
        let v : digit_value c ≡ c - 48 = rw (t, u) refl in
        said r (digit_value c) s (omega arith) ∙ ap Some v ∙ sym (rw (in_range 48 57 c h (omega arith)) refl))
        (λ u. let g = ltb-false c 58 u in
        by_test (ltb c 65)
        (λ w. let b = ltb-true c 65 w in
        nothing (none_of (over 48 57 c g) (under 65 70 c b) (under 97 102 c (omega arith))) (rw (t, u, w) (omega arith)))
        (λ w. from_65 (ltb-false c 65 w))))

-- a value is below 16
digit_small : (c d : ℕ) → Some d ≡ digit_of c → d < 16
unfolding digit_of
digit_small c d e =
    by_test (between 0x30 0x39 c)
    (λ t. let h = both_true (leb 0x30 c) _ t in let g = leb-true c 0x39 h.1 in let v : d ≡ c - 0x30 = cc (rw t at e) in omega arith)
    (λ t. by_test (between 0x41 0x46 c)
    (λ u. let h = both_true (leb 0x41 c) _ u in let g = leb-true c 0x46 h.1 in let v : d ≡ c - 0x41 + 10 = cc (rw (t, u) at e) in omega arith)
    (λ u. by_test (between 0x61 0x66 c)
    (λ w. let h = both_true (leb 0x61 c) _ w in let g = leb-true c 0x66 h.1 in let v : d ≡ c - 0x61 + 10 = cc (rw (t, u, w) at e) in omega arith)
    (λ w. cc (rw (t, u, w) at e))))

-- ---- two digits, by what the code has found of each

module _ (high low : ℕ) (h : Option ℕ) (first : h ≡ digit_of high) where
  pub no_high : (f : Fault) → Err f ≡ ok_or h Digit → Err f ≡ byte_of high low
  unfolding byte_of
  no_high f e = go h first e
    where
      go : (o : Option ℕ) → o ≡ digit_of high → Err f ≡ ok_or o Digit → Err f ≡ byte_of high low
      go None p q = q ∙ rw (← p) refl
      go (Some d) p q = cc q

  module _ (d : ℕ) (is : Ok d ≡ ok_or h Digit) where
    found : Some d ≡ digit_of high
    found = go h first is
      where
        go : (o : Option ℕ) → o ≡ digit_of high → Ok d ≡ ok_or o Digit → Some d ≡ digit_of high
        go None p q = cc q
        go (Some x) p q = let k : d ≡ x = cc q in ap Some k ∙ p

    pub no_second : is_blank low ≡ true → Err Odd ≡ byte_of high low
    unfolding byte_of
    no_second b = rw (← found, b) refl

    module _ (b : is_blank low ≡ false) where
      pub as_second : byte_of high low ≡ with_digit (digit_of low) (λ l. Ok (16 * d + l))
      unfolding byte_of
      as_second = rw (← found, b) refl

module _ (high low d : ℕ) (first : byte_of high low ≡ with_digit (digit_of low) (λ l. Ok (16 * d + l))) (l : Option ℕ) (second : l ≡ digit_of low) where
  pub no_low : (f : Fault) → Err f ≡ ok_or l Digit → Err f ≡ byte_of high low
  no_low f e = go l second e ∙ sym first
    where
      go : (o : Option ℕ) → o ≡ digit_of low → Err f ≡ ok_or o Digit → Err f ≡ with_digit (digit_of low) (λ x. Ok (16 * d + x))
      go None p q = q ∙ rw (← p) refl
      go (Some x) p q = cc q

  pub whole_byte : (x : ℕ) → Ok x ≡ ok_or l Digit → Ok (16 * d + x) ≡ byte_of high low
  whole_byte x e = rw (← (found low high l second x e)) refl ∙ sym first

module _ (high low : ℕ) (h : Option ℕ) (first : h ≡ digit_of high) (l : Option ℕ) (second : l ≡ digit_of low) where
  pub small_digits : (d x : ℕ) → Ok d ≡ ok_or h Digit → Ok x ≡ ok_or l Digit → (d < 16) × (x < 16)
  small_digits d x a b = (digit_small high d (found high low h first d a), digit_small low x (found low high l second x b))

-- ---- decimal digits

pub decimal_digit : (c : ℕ) → is_ascii_digit c ≡ is_decimal c
decimal_digit c = refl

both_some : (t : Bool) → both t true ≡ t
both_some true = refl
both_some false = refl

pub number_if : (word : List ℕ) (r : Bool) → false ≡ eqb (length word) 0 → r ≡ every is_decimal word → r ≡ is_number word
unfolding is_number
number_if word r n e =
    let some : length word ≢ 0 = eqb-false (length word) 0 (sym n) in
    rw (lt-ltb 0 (length word) (omega arith)) (e ∙ sym (both_some (every is_decimal word)))

pub no_digits : (word : List ℕ) (e : Bool) → e ≡ true → e ≡ eqb (length word) 0 → not e ≡ is_number word
unfolding is_number
no_digits word e t q =
    let none : length word ≡ 0 = eqb-true (length word) 0 (sym q ∙ t) in
    rw (t, le-ltb 0 (length word) (omega arith), both-none (every is_decimal word)) refl

-- ---- a word of them, as `parse` reads it

-- what `from_utf8` says of bytes that are UTF-8
module _ {E : Type 0} (bytes : List ℕ) (Bad : E → Type 0) where
  pub is_text : (r : Result (Bor (List ℕ)) E) → MatchResult r (λ s. (s.now ≡ bytes) × IsUtf8 bytes) (λ e. (IsUtf8 bytes → ⊥) × Bad e) → IsUtf8 bytes → IsOk r
  is_text (Ok s) m u = refl
  is_text (Err e) m u = absurd (m.0 u)

  pub text_is : (r : Result (Bor (List ℕ)) E) (s : Bor (List ℕ)) → MatchResult r (λ s. (s.now ≡ bytes) × IsUtf8 bytes) (λ e. (IsUtf8 bytes → ⊥) × Bad e)
      → r ≡ Ok s → s.now ≡ bytes
  text_is (Ok x) s m q = let k : x ≡ s = cc q in ap (λ (y : Bor (List ℕ)). y.now) (sym k) ∙ m.0
  text_is (Err e) s m q = cc q

digit_is : (c : ℕ) → is_decimal c ≡ true → (digit_value c ≡ c - 0x30) × (0x30 ≤ c) × (c ≤ 0x39)
digit_is c t =
    let h = both_true (leb 0x30 c) _ t in
    let low = leb-true 0x30 c h.0 in
    let high = leb-true c 0x39 h.1 in
    (rw (le-ltb c 48 low, lt-ltb c 58 (omega arith)) refl, low, high)

all_digits : (word : List ℕ) → every is_decimal word ≡ true → AllDigits 10 word
unfolding every
all_digits [] t = tt
all_digits (c ∷ word) t =
    let h = both_true (is_decimal c) _ t in
    let d = digit_is c h.0 in
    (omega arith, all_digits word h.1)

value_is : (n : ℕ) (word : List ℕ) → every is_decimal word ≡ true → digits_value_after 10 n word ≡ number n word
unfolding every number
value_is n [] t = refl
value_is n (c ∷ word) t =
    let h = both_true (is_decimal c) _ t in
    let d = digit_is c h.0 in
    let e : n * 10 + digit_value c ≡ 10 * n + (c - 0x30) = omega arith in
    rw e (value_is (10 * n + (c - 0x30)) word h.1)

module _ (word : List ℕ) (is : is_number word ≡ true) where
  decimal : (every is_decimal word ≡ true) × (0 < length word)
  unfolding is_number
  decimal = let h = both_true (every is_decimal word) _ is in (h.0, ltb-true 0 (length word) h.1)

  pub number_is_text : IsUtf8 word
  number_is_text =
      IsUtf8-from_ascii word
      (λ i. by_test (ltb i (length word))
      (λ t. let d = digit_is (get_or word i 0) (every_at is_decimal 0 word i decimal.0 (ltb-true i (length word) t)) in omega arith)
      (λ t. let e = get_or-eq_default word 0 (ltb-false i (length word) t) in omega arith))

  unsigned : without_leading_plus word ≡ word
  unsigned =
      let d = digit_is (get_or word 0 0) (every_at is_decimal 0 word 0 decimal.0 decimal.1) in
      rw (ne_eqb (get_or word 0 0) 43 (omega arith)) refl

  module _ {E : Type 0} (text : List ℕ) (same : text ≡ word) (r : Result ℕ E) (parsed : ParsesUnsigned 16 10 text r) where
    reads : ParsesUnsigned 16 10 word r
    reads = rw same at parsed

    pub limit_read : (n : ℕ) → r ≡ Ok n → Ok n ≡ limit_of word
    unfolding limit_of
    limit_read n e =
        let k = rw (e, unsigned) at reads in
        let v : n ≡ number 0 word = k.1 ∙ value_is 0 word decimal.0 in
        rw (is, le-ltb 65535 (number 0 word) (omega (arith, k.0.1))) (ap Ok v)

    pub limit-over : (x : E) → r ≡ Err x → Err OverLimit ≡ limit_of word
    unfolding limit_of
    limit-over x e =
        let k = rw (e, unsigned) at reads in
        by_test (ltb 65535 (number 0 word)) (λ t. rw (is, t) refl)
        (λ t. absurd (k ((decimal.1, all_digits word decimal.0), rw (value_is 0 word decimal.0) (omega (arith, ltb-false 65535 (number 0 word) t)))))
