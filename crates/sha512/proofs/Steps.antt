-- One word of the message schedule more, one round more, and one word of a sum more.
-- Assumes nothing.
use Rattle.std.proofs.Common.{◌≡◌, ℕ, suc, ◌+◌, ◌-◌, ◌*◌, ◌%◌, ◌^◌, ◌<◌, ◌≤◌, List, length, take, set, get_or, sym, ap, ◌∙◌, add-one, arith, length-set, get_or-take}
use Rattle.algebra.proofs.List.{grow_to}
use Rattle.sha512.specs.Word.{add}
use Rattle.sha512.specs.Bytes.{word_at}
use Rattle.sha512.specs.Constants.{round_constants}
use Rattle.sha512.specs.Compression.{words, next_word, expand, round, rounds, sums}

pub words_more : (w b : List ℕ) (t : ℕ) {x : ℕ} → t < length w → take t w ≡ words t b → x ≡ word_at b (8 * t) → take (t + 1) (set w t x) ≡ words (t + 1) b
unfolding words
words_more w b t h e q = grow_to w t h e q (rw add-one)

-- W_t reads only words before it
next_before : (t : ℕ) (w : List ℕ) → 16 ≤ t → next_word t (take t w) ≡ next_word t w
unfolding next_word
next_before t w h =
    rw (
      get_or-take t w (t - 2) 0 (omega arith),
      get_or-take t w (t - 7) 0 (omega arith),
      get_or-take t w (t - 15) 0 (omega arith),
      get_or-take t w (t - 16) 0 (omega arith),
    )

-- a list of eighty words, of which the first t are those of the schedule
abbrev pub Begun : List ℕ → ℕ → List ℕ → Type 0
Begun w t m = (length w ≡ 80) × (take t w ≡ expand (t - 16) m)

pub expand_more : (t u : ℕ) (w m : List ℕ) {x : ℕ} → u ≡ t + 1 → 16 ≤ t → t < 80 → Begun w t m → x ≡ next_word t w → Begun (set w t x) u m
unfolding expand
expand_more t u w m {x} n l h i q =
    let f : t + 1 - 16 ≡ suc (t - 16) = omega arith in
    let g : 16 + (t - 16) ≡ t = omega arith in (
      length-set w t x ∙ i.0,
      rw n (grow_to w t (omega (arith, i.0)) i.1 (q ∙ sym (next_before t w l) ∙ ap (next_word t) i.1) (rw (f, g))),
    )

pub round_more : (t u : ℕ) (w h s : List ℕ) {x : List ℕ} → u ≡ t + 1 → s ≡ rounds t w h
    → x ≡ round (get_or round_constants t 0) (get_or w t 0) s → x ≡ rounds u w h
unfolding rounds
round_more t u w h s e p q = rw (e, add-one) (q ∙ ap (round (get_or round_constants t 0) (get_or w t 0)) p)

pub sums_more : (r s h : List ℕ) (i : ℕ) {x : ℕ} → i < length r → take i r ≡ sums i s h → x ≡ (get_or s i 0 + get_or h i 0) % 2 ^ 64
    → take (i + 1) (set r i x) ≡ sums (i + 1) s h
unfolding sums add
sums_more r s h i l e q = grow_to r i l e q (rw add-one)
