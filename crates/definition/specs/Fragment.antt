-- Document 01, "Fragment": how much of what is due a tag read sends at a limit, and with what status; and point 3's reply count.
-- 1756-PM020 (Read Tag Fragmented) defines status 0x06 with a part of the data; document 01 alone defines s and the rounding.
use Rattle.std.specs.Prelude.{List, ◌++◌, ℕ, ◌+◌, ◌-◌, ◌*◌, ◌/◌, ltb, leb, length, take}
use Rattle.laws.specs.Pick.{pick}
use Rattle.definition.specs.Reply.{general, reply}

-- s: limit - 4 - h, at least 0 (a difference of ℕ ends at 0) [01]
abbrev pub space : (h limit : ℕ) → ℕ
space h limit = limit - 4 - h

-- s rounded down to a multiple of 4, or s itself if below 4 [01]
unfoldable pub rounded : ℕ → ℕ
rounded s = pick (ltb s 4) s (s / 4 * 4)

-- of `due` bytes, with room for s: the number that is sent, and the status [01]
unfoldable pub size_of : (due s : ℕ) → ℕ
size_of due s = pick (leb due s) due (rounded s)

-- [PM020]
unfoldable pub status_of : (due s : ℕ) → ℕ
status_of due s = pick (leb due s) 0x00 0x06

-- the reply that sends a fragment of a tag chunk behind its type header [01]
unfoldable pub fragment_reply : (service : ℕ) (header chunk : List ℕ) (limit : ℕ) → List ℕ
fragment_reply service header chunk limit =
    let s = space (length header) limit in
    reply service (general (status_of (length chunk) s)) (header ++ take (size_of (length chunk) s) chunk)

-- a ÷ b rounded up, for b above 0 [01]
abbrev pub div_up : ℕ → ℕ → ℕ
div_up a b = (a + (b - 1)) / b

-- "Reply count of point 3": n selected bytes, r is s at the smallest answered limit [01]
unfoldable pub reply_count : (n r : ℕ) → ℕ
reply_count n r = pick (leb n r) 1 (1 + div_up (n - r) (rounded r))
