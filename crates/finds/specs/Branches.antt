-- Lists of branches: one after the other, and turned round.
use Rattle.finds.specs.Trees.{Trees, none, more}

-- The first branches and then the second.
infixr 50 ◌+++◌
abbrev pub ◌+++◌ : Trees → Trees → Trees
none +++ us = us
(more t ts) +++ us = more t (ts +++ us)

-- The branches turned round.
abbrev pub revs : Trees → Trees
revs none = none
revs (more t ts) = revs ts +++ more t none
