-- FIPS 180-4, section 6.4.2: one block, taken into the hash value. A hash value is eight words.
-- Assumes nothing.
use Rattle.std.specs.Prelude.{ℕ, zero, suc, ◌+◌, ◌-◌, ◌*◌, List, [], ◌∷◌, ◌++◌, slice_index}
use Rattle.sha512.specs.Word.{add, ch, maj, Σ0, Σ1, σ0, σ1}
use Rattle.sha512.specs.Bytes.{word_at}
use Rattle.sha512.specs.Constants.{round_constants}

-- the first n words of b
unfoldable pub words : ℕ → List ℕ → List ℕ
words zero b = []
words (suc n) b = words n b ++ (word_at b (8 * n) ∷ [])

-- W_t for 16 ≤ t, of the words before it: σ1(W_(t-2)) + W_(t-7) + σ0(W_(t-15)) + W_(t-16)
unfoldable pub next_word : ℕ → List ℕ → ℕ
next_word t w = add (add (add (σ1 (slice_index w (t - 2))) (slice_index w (t - 7))) (σ0 (slice_index w (t - 15)))) (slice_index w (t - 16))

-- the message schedule after n steps: the sixteen words of the block and n more
unfoldable pub expand : ℕ → List ℕ → List ℕ
expand zero m = m
expand (suc n) m = expand n m ++ (next_word (16 + n) (expand n m) ∷ [])

-- W: the eighty words of the message schedule of a block
unfoldable pub schedule : List ℕ → List ℕ
schedule b = expand 64 (words 16 b)

-- T1 = h + Σ1(e) + Ch(e, f, g) + K_t + W_t
unfoldable pub t1 : ℕ → ℕ → List ℕ → ℕ
t1 k w s = add (add (add (add (slice_index s 7) (Σ1 (slice_index s 4))) (ch (slice_index s 4) (slice_index s 5) (slice_index s 6))) k) w

-- T2 = Σ0(a) + Maj(a, b, c)
unfoldable pub t2 : List ℕ → ℕ
t2 s = add (Σ0 (slice_index s 0)) (maj (slice_index s 0) (slice_index s 1) (slice_index s 2))

-- one round, on the working variables a to h, with the constant k and the word w
unfoldable pub round : ℕ → ℕ → List ℕ → List ℕ
round k w s =
    add (t1 k w s) (t2 s) ∷ slice_index s 0 ∷ slice_index s 1 ∷ slice_index s 2
    ∷ add (slice_index s 3) (t1 k w s) ∷ slice_index s 4 ∷ slice_index s 5 ∷ slice_index s 6 ∷ []

-- the first n rounds
unfoldable pub rounds : ℕ → List ℕ → List ℕ → List ℕ
rounds zero w s = s
rounds (suc t) w s = round (slice_index round_constants t) (slice_index w t) (rounds t w s)

-- the first n words of two hash values, added place by place
unfoldable pub sums : ℕ → List ℕ → List ℕ → List ℕ
sums zero s h = []
sums (suc n) s h = sums n s h ++ (add (slice_index s n) (slice_index h n) ∷ [])

-- the hash value after the block b, h being the one before it
unfoldable pub compress : List ℕ → List ℕ → List ℕ
compress h b = sums 8 (rounds 80 (schedule b) h) h
