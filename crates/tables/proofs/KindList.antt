-- The kinds of a table by their bytes and by their sets: how many there are, and which graves each has.
use Rattle.std.proofs.Common.{◌≡◌, ℕ, zero, suc, ◌+◌, ◌/◌, ◌<◌, Bool, List, ◌∷◌, map, length, get_or, sym, refl, ap, ◌∙◌, arith}
use Rattle.std.proofs.lemmas.List.{length-map, get_or-map, ext_get_or}
use Rattle.finds.specs.Sets.{has}
use Rattle.tables.specs.Format.{kind_set, kinds_from, sets_from, finds_in, finds_of_sets}
use Rattle.tables.proofs.KindSets.{sets_length, sets_at}

pub kinds_are : (bs : List ℕ) (i m : ℕ) → kinds_from bs i m ≡ map has (sets_from bs i m)
kinds_are bs i zero = refl
kinds_are bs i (suc m) = ap (λ (ks : List (ℕ → Bool)). has (kind_set bs i) ∷ ks) (kinds_are bs (suc i) m)

pub kinds_length : (bs : List ℕ) (i m : ℕ) → length (kinds_from bs i m) ≡ m
kinds_length bs i m = ap length (kinds_are bs i m) ∙ length-map (sets_from bs i m) has ∙ sets_length bs i m

pub kinds_at : (bs : List ℕ) (i m j h : ℕ) (d : ℕ → Bool) → j < m → h ≡ i + j → get_or (kinds_from bs i m) j d ≡ has (kind_set bs h)
kinds_at bs i m j h d l e =
    let z = sets_length bs i m in
    ap (λ (ks : List (ℕ → Bool)). get_or ks j d) (kinds_are bs i m) ∙ get_or-map has (sets_from bs i m) j 0 d (omega arith) ∙ ap has (sets_at bs i m j h l e)

-- The finds by their bytes are the finds by the sets of all kinds.
pub finds_as_sets : (n : ℕ) (bs ss : List ℕ) → length ss ≡ length bs / 8 → ((j : ℕ) → j < length bs / 8 → get_or ss j 0 ≡ kind_set bs j) → finds_in n bs ≡ finds_of_sets n ss
finds_as_sets n bs ss e h =
    let m = length bs / 8 in let z = sets_length bs 0 m in
    let same = ext_get_or 0 (sets_from bs 0 m) ss (omega arith) (λ j l. sets_at bs 0 m j j (omega arith) (omega arith) ∙ sym (h j (omega arith))) in
    ap (λ (ks : List (ℕ → Bool)). record { graves = n; kinds = ks }) (kinds_are bs 0 m ∙ ap (map has) same)
