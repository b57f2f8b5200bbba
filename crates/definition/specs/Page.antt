-- Document 01, "Symbol page": ascending IDs from the start ID; stops with 0x06 before an entry that does not fit; 0x11 if the first does not.
-- 1756-PM020 (Get Instance Attribute List of the Symbol object) defines entries that ascend from a start and status 0x06; document 01 alone
-- defines that a page stops before the first that does not fit, 0x11, and a page with nothing due (status 0 at any limit).
use Rattle.std.specs.Prelude.{Bool, false, List, [], ◌∷◌, ◌++◌, ℕ, suc, ◌-◌, ltb, leb, eqb, length, take}
use Rattle.laws.specs.Pick.{pick}
use Rattle.definition.specs.Reply.{general, reply, fail, too_large}

-- a symbol as a page lists it: its ID, and its bytes, the ID's among them
pub record Entry : Type 0 where
  pub id : ℕ
  pub bytes : List ℕ

-- [01]
abbrev pub id_of : Entry → ℕ
id_of e = e.id

-- [PM020]
unfoldable pub bytes_of : List Entry → List ℕ
bytes_of [] = []
bytes_of (e ∷ es) = e.bytes ++ bytes_of es

-- the number of entries that fit, up to the first that does not [01]
unfoldable pub fitting : (space : ℕ) → List Entry → ℕ
fitting space [] = 0
fitting space (e ∷ es) = pick (leb (length e.bytes) space) (suc (fitting (space - length e.bytes) es)) 0

-- [01]
unfoldable pub first_unfit : (space : ℕ) → List Entry → Bool
first_unfit space [] = false
first_unfit space (e ∷ es) = ltb space (length e.bytes)

-- the page of the entries due, at a limit [01]
unfoldable pub page_reply : (service : ℕ) → List Entry → (limit : ℕ) → List ℕ
page_reply service due limit =
    let n = fitting (limit - 4) due in
    pick (first_unfit (limit - 4) due) (fail service too_large)
    (reply service (general (pick (eqb n (length due)) 0x00 0x06)) (bytes_of (take n due)))
