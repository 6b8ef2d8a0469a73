-- `t1` is T1, its sums modulo 2 ^ 64 in another order.
use Rattle.std.proofs.Common.{◌≡◌, ℕ, ◌+◌, ◌%◌, ◌^◌, get_or, sym, ap, ◌∙◌, arith}
use native.Mathlib.Nat.{mod-add-mod}
use Rattle.sha512.specs.Word.{add, ch, Σ1}
use Rattle.sha512.specs.Compression.{t1}
use Rattle.sha512.proofs.compression.t1.Goals as goal

-- only the whole sum is to be taken modulo 2 ^ 64
sum_of_five : (a b c d e : ℕ) → add (add (add (add a b) c) d) e ≡ (a + b + c + d + e) % 2 ^ 64
unfolding add
sum_of_five a b c d e = rw (mod-add-mod (a + b) (2 ^ 64) c, mod-add-mod (a + b + c) (2 ^ 64) d, mod-add-mod (a + b + c + d) (2 ^ 64) e)

in_order : (h k w f e : ℕ) → add (add (add (add h k) w) f) e ≡ add (add (add (add h e) f) k) w
in_order h k w f e =
    let q : h + k + w + f + e ≡ h + e + f + k + w = omega arith in
    sum_of_five h k w f e ∙ ap (λ (n : ℕ). n % 2 ^ 64) q ∙ sym (sum_of_five h e f k w)

pub returns : goal.returns
unfolding t1 add
returns c = let a = c.args in
    cc (in_order (get_or a.s 7 0) a.k a.w (ch (get_or a.s 4 0) (get_or a.s 5 0) (get_or a.s 6 0)) (Σ1 (get_or a.s 4 0)))
