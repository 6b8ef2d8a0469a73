-- The hash value over parts of a message: the whole blocks of one part, then what they leave with what follows.
-- Assumes nothing.
use Rattle.std.proofs.Common.{◌≡◌, ℕ, zero, suc, ◌+◌, ◌*◌, ◌/◌, ◌≤◌, List, ◌++◌, length, take, drop, sym, refl, ap, ◌∙◌, ap₂, append_assoc, add-zero, add-suc, mul-add, arith, length-append, length-drop, take-append-drop, drop_of_length-le, take_all, drop-drop}
use lib.Seq.{take-append-le, drop-append-le}
use Rattle.sha512.specs.Padding.{block_at}
use Rattle.sha512.specs.Compression.{compress}
use Rattle.sha512.specs.Digest.{chain, hash_value}

-- blocks count on from block m
block_add : (m n : ℕ) (p : List ℕ) → block_at p (m + n) ≡ block_at (drop (128 * m) p) n
unfolding block_at
block_add m n p = rw (drop-drop (128 * n) (128 * m) p, mul-add 128 m n)

chain-add : (h : List ℕ) (m n : ℕ) (p : List ℕ) → chain h (m + n) p ≡ chain (chain h m p) n (drop (128 * m) p)
unfolding chain
chain-add h m zero p = ap (λ (n : ℕ). chain h n p) (add-zero m)
chain-add h m (suc n) p = ap (λ (k : ℕ). chain h k p) (add-suc m n) ∙ ap₂ compress (chain-add h m n p) (block_add m n p)

block_front : (n : ℕ) (a q : List ℕ) → 128 * n + 128 ≤ length a → block_at (a ++ q) n ≡ block_at a n
unfolding block_at
block_front n a q l =
    rw (
      drop-append-le (128 * n) a q (omega arith),
      take-append-le 128 (drop (128 * n) a) q (rw length-drop (omega arith)),
    )

-- the blocks that lie whole in a do not depend on what follows it
chain_front : (h : List ℕ) (n : ℕ) (a q : List ℕ) → 128 * n ≤ length a → chain h n (a ++ q) ≡ chain h n a
unfolding chain
chain_front h zero a q l = refl
chain_front h (suc n) a q l = ap₂ compress (chain_front h n a q (omega arith)) (block_front n a q (omega arith))

-- what the whole blocks of a list leave
abbrev pub left_over : List ℕ → List ℕ
left_over a = drop (128 * (length a / 128)) a

block_count : (a q : List ℕ) → length (a ++ q) / 128 ≡ length a / 128 + length (left_over a ++ q) / 128
block_count a q =
    omega (arith, length-append a q, length-append (left_over a) q, length-drop (128 * (length a / 128)) a)

pub hash_append : (h a q : List ℕ) → hash_value h (a ++ q) ≡ hash_value (hash_value h a) (left_over a ++ q)
unfolding hash_value
hash_append h a q =
    ap (λ (n : ℕ). chain h n (a ++ q)) (block_count a q)
    ∙ chain-add h (length a / 128) (length (left_over a ++ q) / 128) (a ++ q)
    ∙ ap₂ (λ (g p : List ℕ). chain g (length (left_over a ++ q) / 128) p)
    (chain_front h (length a / 128) a q (omega arith))
    (drop-append-le (128 * (length a / 128)) a q (omega arith))

-- one block
pub hash_one : (h b : List ℕ) → length b ≡ 128 → hash_value h b ≡ compress h b
unfolding hash_value chain block_at
hash_one h b e = rw e (ap (compress h) (take_all 128 b (omega arith)))

-- a block, and what follows it
pub hash_block : (h b q : List ℕ) → length b ≡ 128 → hash_value h (b ++ q) ≡ hash_value (compress h b) q
hash_block h b q e =
    hash_append h b q
    ∙ ap₂ hash_value (hash_one h b e) (ap (λ (r : List ℕ). r ++ q) (drop_of_length-le b {i = 128 * (length b / 128)} (omega arith)))

-- a block made of t and the front of b
pub hash_joined : (h t b e x v : List ℕ) (k : ℕ) → length x ≡ 128 → x ≡ t ++ take k b → v ≡ compress h x
    → hash_value v (drop k b ++ e) ≡ hash_value h (t ++ b ++ e)
hash_joined h t b e x v k l f g =
    ap (λ (w : List ℕ). hash_value w (drop k b ++ e)) g
    ∙ sym (hash_block h x (drop k b ++ e) l)
    ∙ ap (hash_value h)
    (sym (append_assoc x (drop k b) e)
    ∙ ap (λ (y : List ℕ). y ++ e)
    (ap (λ (y : List ℕ). y ++ drop k b) f ∙ append_assoc t (take k b) (drop k b) ∙ ap (λ (y : List ℕ). t ++ y) (take-append-drop k b)))

-- the whole blocks of a, then what they leave with b and e
pub hash_two : (h a b e : List ℕ) → hash_value h (a ++ b ++ e) ≡ hash_value (hash_value h a) (left_over a ++ b ++ e)
hash_two h a b e = rw (append_assoc a b e, append_assoc (left_over a) b e) (hash_append h a (b ++ e))
