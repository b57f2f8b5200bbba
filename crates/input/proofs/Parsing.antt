-- What a line asks: blanks that are skipped, the turns of the loop that reads the bytes, and the line by its parts.
-- Assumes nothing.
use mathlib.Core.Path.{◌≡◌, refl, sym, ap, subst, ◌∙◌}
use mathlib.Core.Bool.{Bool, true, false, not}
use mathlib.Core.List.{List, [], ◌∷◌, ◌++◌, append-nil, append_assoc}
use Prim.Native.Nat.{ℕ, suc, ◌+◌, ◌-◌, ◌<◌, ◌≤◌}
use native.Mathlib.Omega.{arith}
use native.Mathlib.Numerals.{add-one}
use native.Mathlib.Nat.{zero-add}
use lib.Dec.{leb, ltb, eqb}
use lib.ListN.{length, get_or, take, drop, set, take-append-drop, length-set, length-drop}
use lib.Seq.{length-take-le, take-suc-set, drop-set-lt, drop-drop}
use borrow.Author.Tests.{lt-leb, le-leb, ne_eqb, eq-eqb, leb-false, ltb-false}
use Rattle.std.specs.Prelude.{Result, Ok, Err, None, IfOk, IfSome}
use Rattle.std.proofs.lemmas.List.{take_rest}
use Rattle.laws.specs.Put.{put}
use Rattle.laws.specs.Tests.{stretch}
use Rattle.laws.proofs.Chain.{by_test, pick_all}
use Rattle.laws.proofs.Tests.{pick_by}
use Rattle.laws.proofs.Put.{put-none}
use Rattle.input.specs.Text.{up_to}
use Rattle.input.proofs.Text.{take-stretch}
use Rattle.input.specs.declared.hex.Fault.{Fault}
use Rattle.input.specs.declared.hex.Fault.TheVariants.{TooLong}
use Rattle.input.specs.Lines.{Asks, asks_for, Parsed, ends, behind, is_blank, after_blanks, word_in, is_number, number, limit_of, with_limit}
use Rattle.input.specs.Lines.{byte_of, with_byte, lone_fault, bytes_in, limited_by, asked_by, parsed, ReadsLine}

-- ---- blanks that are skipped

pub blanks_end : (text : List ℕ) → drop (length (stretch (λ x. not (is_blank x)) text)) text ≡ after_blanks text
unfolding stretch after_blanks
blanks_end [] = refl
blanks_end (c ∷ text) = by_test (is_blank c) (λ t. rw t (blanks_end text)) (λ t. rw t refl)

-- it begins with no blank
abbrev Begins : List ℕ → Type 0
Begins [] = Unit {0}
Begins (c ∷ text) = is_blank c ≡ false

begins : (text : List ℕ) → Begins (after_blanks text)
unfolding after_blanks
begins [] = tt
begins (c ∷ text) = by_test (is_blank c) (λ t. rw t (begins text)) (λ t. rw t t)

-- a reading that goes over blanks gives the same from the first character that is none
skip : {A : Type 0} (f : List ℕ → A) (over : (x : ℕ) (l : List ℕ) → is_blank x ≡ true → f (x ∷ l) ≡ f l) (text : List ℕ) → f text ≡ f (after_blanks text)
unfolding after_blanks
skip f over [] = refl
skip f over (x ∷ text) = by_test (is_blank x) (λ t. rw t (over x text t ∙ skip f over text)) (λ t. rw t refl)

bytes-over : (limit most n x : ℕ) (l : List ℕ) → is_blank x ≡ true → bytes_in limit most n (x ∷ l) ≡ bytes_in limit most n l
unfolding bytes_in
bytes-over limit most n x [] t = rw t
bytes-over limit most n x (y ∷ l) t = rw t

asked_over : (most x : ℕ) (l : List ℕ) → is_blank x ≡ true → asked_by most (x ∷ l) ≡ asked_by most l
unfolding asked_by
asked_over most x l t = rw t

-- ---- the bytes

two_more : (limit most n : ℕ) (rest : List ℕ) → Begins rest → 2 ≤ length rest
    → bytes_in limit most n rest
    ≡ with_byte (byte_of (get_or rest 0 0) (get_or rest 1 0)) (leb most n) (bytes_in limit most (suc n) (drop 2 rest))
unfolding bytes_in
two_more limit most n [] b h = absurd (omega arith)
two_more limit most n (x ∷ []) b h = absurd (omega arith)
two_more limit most n (x ∷ y ∷ rest) b h = rw b refl

last_one : (limit most n : ℕ) (rest : List ℕ) → Begins rest → 1 ≤ length rest → length rest < 2
    → bytes_in limit most n rest ≡ ends (Err (lone_fault (get_or rest 0 0)))
unfolding bytes_in
last_one limit most n [] b h l = absurd (omega arith)
last_one limit most n (x ∷ []) b h l = rw b refl
last_one limit most n (x ∷ y ∷ rest) b h l = absurd (omega arith)

no_more : (limit most n : ℕ) (rest : List ℕ) → length rest < 1 → bytes_in limit most n rest ≡ ends (asks_for limit n)
unfolding bytes_in
no_more limit most n [] h = refl
no_more limit most n (x ∷ rest) h = absurd (omega arith)

after-short : (text : List ℕ) → length (after_blanks text) ≤ length text
unfolding after_blanks
after-short [] = omega arith
after-short (c ∷ text) = by_test (is_blank c) (λ t. rw t (omega (arith, after-short text))) (λ t. rw t (omega arith))

-- two characters fewer are left
pub going_less : (rest next : List ℕ) → 2 ≤ length rest → next ≡ after_blanks (take (length rest - 2) (drop 2 rest)) → length next < length rest
going_less rest next h e = rw (e, take_rest rest 2) (omega (arith, after-short (drop 2 rest), length-drop 2 rest))

-- n bytes are read into the request, and the text `rest`, which begins with no blank, goes on with them
pub record Gathering (limit : ℕ) (text old rest : List ℕ) (n : ℕ) (request : List ℕ) : Type 0 where
  pub whole : bytes_in limit (length old) 0 text ≡ behind (take n request) (bytes_in limit (length old) n rest)
  pub unread : drop n request ≡ drop n old
  pub begun : Begins rest
  pub fits : n ≤ length old
  pub long : length request ≡ length old

pub going_start : (limit : ℕ) (text old rest : List ℕ) → rest ≡ after_blanks text → Gathering limit text old rest 0 old
going_start limit text old rest e = rw e (record {
  whole = skip (bytes_in limit (length old) 0) (bytes-over limit (length old) 0) text;
  unread = refl;
  begun = begins text;
  fits = omega arith;
  long = refl;
})

module _ (limit : ℕ) (text old rest : List ℕ) (n : ℕ) (request : List ℕ) (g : Gathering limit text old rest n request) where
  -- where the text from here on says what is asked, that is the answer
  answered : (x : Asks) → bytes_in limit (length old) n rest ≡ ends x → ReadsLine (bytes_in limit (length old) 0 text) old x request
  unfolding put
  answered x e =
      let w : bytes_in limit (length old) 0 text ≡ record { asks = x; bytes = take n request } =
      g.whole ∙ ap (behind (take n request)) e ∙ ap (λ (b : List ℕ). record { asks = x; bytes = b }) (append-nil (take n request)) in
      rw w (record {
        asks_is = refl;
        buffer_is = sym (take-append-drop n request) ∙ rw (zero-add, length-take-le n request (omega (arith, g.fits, g.long)), g.unread);
      })

  pub going_fault : (f : Fault) → 2 ≤ length rest → Err f ≡ byte_of (get_or rest 0 0) (get_or rest 1 0)
      → ReadsLine (bytes_in limit (length old) 0 text) old (Err f) request
  going_fault f h e = answered (Err f) (two_more limit (length old) n rest g.begun h ∙ rw (← e) refl)

  module _ (b : ℕ) (h : 2 ≤ length rest) (e : Ok b ≡ byte_of (get_or rest 0 0) (get_or rest 1 0)) where
    pub going_full : length request ≤ n → ReadsLine (bytes_in limit (length old) 0 text) old (Err TooLong) request
    going_full f =
        answered (Err TooLong) (two_more limit (length old) n rest g.begun h ∙ rw (← e, le-leb (length old) n (omega (arith, g.long))) refl)

    more : n < length old → bytes_in limit (length old) n rest ≡ behind (b ∷ []) (bytes_in limit (length old) (suc n) (drop 2 rest))
    more f = two_more limit (length old) n rest g.begun h ∙ rw (← e, lt-leb (length old) n f) refl

    pub going_more : (next : List ℕ) → n < length request → next ≡ after_blanks (take (length rest - 2) (drop 2 rest))
        → Gathering limit text old next (n + 1) (set request n b)
    going_more next f s =
        let room : n < length old = omega (arith, g.long) in
        let after : List ℕ = after_blanks (drop 2 rest) in
        let there : next ≡ after = s ∙ ap after_blanks (take_rest rest 2) in
        let further : bytes_in limit (length old) n rest ≡ behind (b ∷ []) (bytes_in limit (length old) (suc n) after) =
        more room ∙ ap (behind (b ∷ [])) (skip (bytes_in limit (length old) (suc n)) (bytes-over limit (length old) (suc n)) (drop 2 rest)) in
        let stored : take (suc n) (set request n b) ≡ take n request ++ (b ∷ []) = take-suc-set request n b f in
        let dropped : drop (suc n) (set request n b) ≡ drop (suc n) old =
        drop-set-lt (suc n) request n b (omega arith) ∙ sym (rest_of request) ∙ ap (drop 1) g.unread ∙ rest_of old in
        rw (add-one n, there) (record {
          whole = g.whole ∙ ap (behind (take n request)) further
              ∙ ap (λ (z : List ℕ). record { asks = (bytes_in limit (length old) (suc n) after).asks; bytes = z })
              (sym (append_assoc (take n request) (b ∷ []) (bytes_in limit (length old) (suc n) after).bytes))
              ∙ ap (λ (z : List ℕ). behind z (bytes_in limit (length old) (suc n) after)) (sym stored);
          unread = dropped;
          begun = begins (drop 2 rest);
          fits = room;
          long = length-set request n b ∙ g.long;
        })
      where
        rest_of : (xs : List ℕ) → drop 1 (drop n xs) ≡ drop (suc n) xs
        rest_of xs = drop-drop 1 n xs ∙ ap (λ (k : ℕ). drop k xs) (add-one n)

  pub going_odd : 1 ≤ length rest → length rest < 2 → ReadsLine (bytes_in limit (length old) 0 text) old (Err (lone_fault (get_or rest 0 0))) request
  going_odd h l = answered _ (last_one limit (length old) n rest g.begun h l)

  pub going_end : length rest < 1 → ReadsLine (bytes_in limit (length old) 0 text) old (asks_for limit n) request
  going_end h = answered _ (no_more limit (length old) n rest h)

-- ---- the line

-- nothing is read
reads_none : (q : Parsed) (r : Asks) (old : List ℕ) → q ≡ ends r → ReadsLine q old r old
reads_none q r old e = rw e (record { asks_is = refl; buffer_is = sym (put-none old 0) })

module _ (text word old : List ℕ) (is : word ≡ word_in text) where
  pub limit_wrong : (f : Fault) → Err f ≡ limit_of word → ReadsLine (limited_by (length old) text) old (Err f) old
  unfolding limited_by
  limit_wrong f e = reads_none _ _ old (rw (← is, ← e) refl)

  pub limit_right : (n : ℕ) (rest : List ℕ) (r : Asks) (new : List ℕ) → Ok n ≡ limit_of word → rest ≡ drop (length (word_in text)) text
      → ReadsLine (bytes_in n (length old) 0 rest) old r new → ReadsLine (limited_by (length old) text) old r new
  unfolding limited_by
  limit_right n rest r new e d s = rw (← d, ← is, ← e) s

asked_none : (most : ℕ) (text : List ℕ) → length text < 1 → asked_by most text ≡ ends (Ok None)
unfolding asked_by
asked_none most [] h = refl
asked_none most (c ∷ text) h = absurd (omega arith)

asked_limited : (most : ℕ) (text : List ℕ) → Begins text → 1 ≤ length text → get_or text 0 0 ≡ 0x40
    → asked_by most text ≡ limited_by most (take (length text - 1) (drop 1 text))
unfolding asked_by
asked_limited most [] b h e = absurd (omega arith)
asked_limited most (c ∷ text) b h e = rw (b, eq-eqb c 0x40 e) (ap (limited_by most) (sym (take_rest (c ∷ text) 1)))

asked_plain : (most : ℕ) (text : List ℕ) → Begins text → 1 ≤ length text → (get_or text 0 0 ≡ 0x40 → ⊥) → asked_by most text ≡ bytes_in 500 most 0 text
unfolding asked_by
asked_plain most [] b h e = absurd (omega arith)
asked_plain most (c ∷ text) b h e = rw (b, ne_eqb c 0x40 e) refl

module _ (text after old : List ℕ) (is : after ≡ after_blanks text) where
  skipped : asked_by (length old) text ≡ asked_by (length old) after
  skipped = skip (asked_by (length old)) (asked_over (length old)) text ∙ ap (asked_by (length old)) (sym is)

  begun_here : Begins after
  begun_here = rw is (begins text)

  pub asks_nothing : length after < 1 → ReadsLine (asked_by (length old) text) old (Ok None) old
  asks_nothing h = reads_none _ _ old (skipped ∙ asked_none (length old) after h)

  module _ (r : Asks) (new : List ℕ) (some : 1 ≤ length after) where
    pub asks_with_limit : get_or after 0 0 ≡ 0x40 → ReadsLine (limited_by (length old) (take (length after - 1) (drop 1 after))) old r new
        → ReadsLine (asked_by (length old) text) old r new
    asks_with_limit e s = rw (skipped ∙ asked_limited (length old) after begun_here some e) s

    pub asks_plainly : (get_or after 0 0 ≡ 0x40 → ⊥) → ReadsLine (bytes_in 500 (length old) 0 after) old r new
        → ReadsLine (asked_by (length old) text) old r new
    asks_plainly e s = rw (skipped ∙ asked_plain (length old) after begun_here some e) s

pub without_comment : (line old : List ℕ) (end : ℕ) (r : Asks) (new : List ℕ) → end ≡ length (up_to 0x23 line)
    → ReadsLine (asked_by (length old) (take end line)) old r new → ReadsLine (parsed (length old) line) old r new
unfolding parsed
without_comment line old end r new e s = rw (e, take-stretch (λ x. eqb x 0x23) line) at s

-- ---- a request keeps to the largest limit and to its buffer

abbrev Fits : (most : ℕ) → Asks → Type 0
Fits most r = IfOk r (λ o. IfSome o (λ a. (a.limit ≤ 65535) × (a.len ≤ most)))

byte-fits : (most : ℕ) (b : Result ℕ Fault) (full : Bool) (rest : Parsed) → (full ≡ false → Fits most rest.asks) → Fits most (with_byte b full rest).asks
byte-fits most (Err f) full rest h = tt
byte-fits most (Ok b) true rest h = tt
byte-fits most (Ok b) false rest h = h refl

bytes-fit : (limit most n : ℕ) (text : List ℕ) → limit ≤ 65535 → n ≤ most → Fits most (bytes_in limit most n text).asks
unfolding bytes_in
bytes-fit limit most n [] h l = (h, l)
bytes-fit limit most n (x ∷ []) h l = pick_all (λ (p : Parsed). Fits most p.asks) (is_blank x) (h, l) tt
bytes-fit limit most n (x ∷ y ∷ text) h l =
    pick_all (λ (p : Parsed). Fits most p.asks) (is_blank x) (bytes-fit limit most n (y ∷ text) h l)
    (byte-fits most (byte_of x y) (leb most n) (bytes_in limit most (suc n) text) (λ t. bytes-fit limit most (suc n) text h (leb-false most n t)))

limit-fits : (most : ℕ) (r : Result ℕ Fault) (rest : List ℕ) → IfOk r (λ n. n ≤ 65535) → Fits most (with_limit r (λ limit. bytes_in limit most 0 rest)).asks
limit-fits most (Err f) rest h = tt
limit-fits most (Ok n) rest h = bytes-fit n most 0 rest h (omega arith)

limit_small : (word : List ℕ) → IfOk (limit_of word) (λ n. n ≤ 65535)
unfolding limit_of
limit_small word =
    let P : Result ℕ Fault → Type 0 = λ r. IfOk r (λ n. n ≤ 65535) in
    pick_all P (is_number word) (pick_by P (ltb 65535 (number 0 word)) (λ t. tt) (λ t. ltb-false 65535 (number 0 word) t)) tt

asked-fits : (most : ℕ) (text : List ℕ) → Fits most (asked_by most text).asks
unfolding asked_by limited_by
asked-fits most [] = tt
asked-fits most (c ∷ text) =
    let P : Parsed → Type 0 = λ p. Fits most p.asks in
    let word = word_in text in
    pick_all P (is_blank c) (asked-fits most text)
    (pick_all P (eqb c 0x40) (limit-fits most (limit_of word) (drop (length word) text) (limit_small word))
    (bytes-fit 500 most 0 (c ∷ text) (omega arith) (omega arith)))

pub request-fits : (old new text : List ℕ) (r : Asks) → ReadsLine (asked_by (length old) text) old r new → Fits (length old) r
request-fits old new text r s = subst (Fits (length old)) (sym s.asks_is) (asked-fits (length old) text)
