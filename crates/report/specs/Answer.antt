-- The texts that the programs print, byte for byte.
use Rattle.std.specs.Prelude.{ℕ, zero, suc, ◌+◌, ◌*◌, ◌/◌, List, [], ◌∷◌, ◌++◌, length, Some, None, codes, decimal, Option, slice_index}
use Rattle.finds.specs.Trees.{Tree}
use Rattle.tables.specs.Texts.{refusal_text, torn_text}
use Rattle.tables.specs.declared.refusal.Refusal.{Refusal}
use Rattle.tables.specs.declared.verdict.Torn.{Torn}
use Rattle.grounds.specs.Texts.{no_clash_text}
use Rattle.grounds.specs.declared.verdict.NoClash.{NoClash}
use Rattle.certain.specs.declared.neighbours.Neighbours.{Neighbours}
use Rattle.text.specs.Show.{show}

-- What ends a line.
abbrev pub line_feed : List ℕ
line_feed = 10 ∷ []

-- The line on the number of orders.
abbrev pub orders_line : Option ℕ → List ℕ
orders_line (Some n) = codes "orders " ++ (decimal n ++ line_feed)
orders_line None = codes "orders many" ++ line_feed

-- The line on the grave b and its two nearest graves; nothing where there are none.
abbrev pub near_line : ℕ → Option Neighbours → List ℕ
near_line b (Some p) = decimal b ++ (codes " between " ++ (decimal p.before ++ (codes " and " ++ (decimal p.behind ++ line_feed))))
near_line b None = []

-- The lines on the graves 0 to n - 1, rising.
abbrev pub near_lines : (ℕ → Option Neighbours) → ℕ → List ℕ
near_lines near zero = []
near_lines near (suc n) = near_lines near n ++ near_line n (near n)

-- The answer where orders fit: the tree, the number of orders, and for each of the n graves its two nearest.
abbrev pub tree_answer : Tree → Option ℕ → (ℕ → Option Neighbours) → ℕ → List ℕ
tree_answer t count near n = show t ++ (line_feed ++ (orders_line count ++ near_lines near n))

-- The pair of the number k, with a space before it unless it is the first.
abbrev pub pair_text : ℕ → ℕ → ℕ → List ℕ
pair_text zero a b = decimal a ++ (codes "-" ++ decimal b)
pair_text (suc k) a b = codes " " ++ (decimal a ++ (codes "-" ++ decimal b))

-- The first k pairs of a ring, two bytes for each, one space apart.
abbrev pub pairs_text : List ℕ → ℕ → List ℕ
pairs_text ring zero = []
pairs_text ring (suc k) = pairs_text ring k ++ pair_text k (slice_index ring (2 * k)) (slice_index ring (2 * k + 1))

-- The answer where no order fits: the ring on a line of its own. A byte left over stands for nothing.
abbrev pub ring_answer : List ℕ → List ℕ
ring_answer ring = codes "no order" ++ (line_feed ++ (pairs_text ring (length ring / 2) ++ line_feed))

-- The answer to what is turned away.
abbrev pub refusal_answer : Refusal → List ℕ
refusal_answer r = refusal_text r ++ line_feed

-- The answer on what was checked: what is amiss, by its text, or the word for that nothing is.
abbrev pub verdict_answer : {V : Type 0} → List ℕ → (V → List ℕ) → Option V → List ℕ
verdict_answer word text None = word ++ line_feed
verdict_answer word text (Some v) = text v ++ line_feed

-- The answer on an order from elsewhere.
abbrev pub order_verdict_answer : Option Torn → List ℕ
order_verdict_answer = verdict_answer (codes "fits") torn_text

-- The answer on a ring from elsewhere.
abbrev pub ring_verdict_answer : Option NoClash → List ℕ
ring_verdict_answer = verdict_answer (codes "ground") no_clash_text
