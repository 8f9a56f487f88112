use Rattle.std.proofs.Common.{◌≡◌, ℕ, ◌+◌, ◌/◌, ◌%◌, ◌<◌, ◌≤◌, List, [], ◌∷◌, ◌++◌, decimal, sym, ap, ◌∙◌, append_assoc, arith}
use Rattle.std.proofs.lemmas.Fmt.{decimal_digit, decimal_step}
use Rattle.std.proofs.lemmas.Result.{on_ok_weaker}
use Rattle.std.proofs.lemmas.Str.{encode_ascii}
use lib.Utf8.{encode}
use Rattle.text.proofs.Showing.{pushed}
use Rattle.text.proofs.write_grave.Goals as goal

-- One digit.
one : (n : ℕ) (a b : List ℕ) → n < 10 → b ≡ a ++ encode (48 + n) → b ≡ a ++ decimal n
one n a b h e = e ∙ ap (λ (z : List ℕ). a ++ z) (encode_ascii (48 + n) (omega arith) ∙ sym (decimal_digit n h))

-- Two digits.
two : (n : ℕ) (a b c : List ℕ) → 10 ≤ n → n < 100 → b ≡ a ++ encode (48 + n / 10) → c ≡ b ++ encode (48 + n % 10) → c ≡ a ++ decimal n
two n a b c h l e f =
    let p = e ∙ ap (λ (z : List ℕ). a ++ z) (encode_ascii (48 + n / 10) (omega arith)) in
    let q = f ∙ ap (λ (z : List ℕ). b ++ z) (encode_ascii (48 + n % 10) (omega arith)) in
    let d = decimal_step n h (omega arith) ∙ ap (λ (z : List ℕ). z ++ ((48 + n % 10) ∷ [])) (decimal_digit (n / 10) (omega arith)) in
    q ∙ ap (λ (z : List ℕ). z ++ ((48 + n % 10) ∷ [])) p ∙ append_assoc a ((48 + n / 10) ∷ []) ((48 + n % 10) ∷ []) ∙ ap (λ (z : List ℕ). a ++ z) (sym d)

pub returns-then-grave-lt10 : goal.returns-then-grave-lt10
returns-then-grave-lt10 c = on_ok_weaker c.push.result (λ e. one c.args.grave _ _ c.if-grave-lt10.true e) (pushed c.push.result _ _ _ c.push.ensures.bytes)

pub returns : goal.returns
returns c = on_ok_weaker c.push-3.result (λ e. two c.args.grave _ _ _ c.if-grave-lt10.false c.requires c.in_ok-push.ensures.bytes e) (pushed c.push-3.result _ _ _ c.push-3.ensures.bytes)
