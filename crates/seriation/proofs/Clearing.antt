-- Cells that are emptied: one row of them.
use Rattle.std.proofs.Common.{◌≡◌, ℕ, ◌-◌, ◌<◌, ◌≤◌, List, length, get_or, take, drop, replicate, ap, ◌∙◌, arith, length-drop, length-take}
use borrow.Rule.Slice.PartMut.{put_mid}
use lib.ListN.{get_or-replicate, length-replicate}
use Rattle.std.proofs.lemmas.List.{places}
use Rattle.std.proofs.lemmas.Slice.{drop-put_mid}

module _ {A : Type 0} (nothing : A) (from to : ℕ) (xs : List A) where
  len : from ≤ to → to ≤ length xs → length (take (to - from) (drop from xs)) ≡ to - from
  len h l = simp (length-take, length-drop) (omega arith)

  pub is_empty : (ys : List A) → from ≤ to → to ≤ length xs → ys ≡ replicate (length (take (to - from) (drop from xs))) nothing
      → (x : ℕ) → from ≤ x → x < to → get_or (put_mid from (to - from) xs ys) x nothing ≡ nothing
  is_empty ys h l s x p q =
      let m = len h l in
      let n : length ys ≡ to - from = ap length s ∙ length-replicate (length (take (to - from) (drop from xs))) nothing ∙ m in
      let r : get_or ys (x - from) nothing ≡ nothing = ap (λ (l : List A). get_or l (x - from) nothing) s ∙ get_or-replicate (length (take (to - from) (drop from xs))) (x - from) nothing nothing (omega arith) in grind (arith, places)

  pub rest_kept : (ys : List A) → from ≤ to → to ≤ length xs → ys ≡ replicate (length (take (to - from) (drop from xs))) nothing → drop to (put_mid from (to - from) xs ys) ≡ drop to xs
  rest_kept ys h l s = drop-put_mid from (to - from) xs ys to (omega arith) (omega arith) (ap length s ∙ length-replicate (length (take (to - from) (drop from xs))) nothing ∙ len h l)
