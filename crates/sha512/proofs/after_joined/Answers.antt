-- `after_joined` fills a block with the two slices: all of them where they end in it, else as much as it holds.
use Rattle.std.proofs.Common.{◌≡◌, ℕ, ◌+◌, ◌-◌, ◌++◌, length, take, replicate, ap, ◌∙◌, append-nil, arith, length-take-le, rules}
use Rattle.sha512.specs.Padding.{ending}
use Rattle.sha512.specs.Digest.{hash_value}
use Rattle.std.proofs.lemmas.List.{take_rest}
use Rattle.sha512.proofs.Chain.{hash_joined}
use Rattle.sha512.proofs.after_joined.Goals as goal

pub returns : goal.returns
returns c = let p = c.args in
    let t = p.tail.now in
    let b = p.bytes.now in
    let k : ℕ = 128 - length t in
    let l : length c.filled-block-2.result ≡ 128 = search rules in
    let z : 128 - (length t + length (take k b)) ≡ 0 = omega (arith, length-take-le k b (omega arith)) in
    c.after_end.ensures
    ∙ ap (λ r. hash_value c.compressed-value.result (r ++ ending p.total)) (take_rest b k)
    ∙ hash_joined _ t b (ending p.total) c.filled-block-2.result _ k l
    (c.filled-block-2.ensures ∙ ap (λ n. t ++ take k b ++ replicate n 0) z ∙ append-nil (t ++ take k b))
    c.compressed-value.ensures
