-- An insertion as a new link that names its neighbors, and two writes.
use Rattle.std.specs.Prelude.{◌≡◌, ℕ, ◌==◌, if◌then◌else◌, Bool, true, false, Option, None, Some}
use Rattle.std.specs.Option.{option_map}
use Rattle.std.proofs.Common.{refl, sym, ap, ◌∙◌}
use mathlib.Core.Path.{fun_ext}
use Rattle.std.proofs.lemmas.Bool.{eqb-true}
use Rattle.chain_laws.specs.Chains.{LinkMap, Interlinks}
use Rattle.chain_laws.specs.Joins.{with_prev, with_next, with_prev_at, with_next_at, with_neighbors, with_lone}
use Rattle.chain_laws.specs.Insertions.{with_insertion}
use Rattle.chain_laws.proofs.ChainLemmas.LinkedLists.{link}

abbrev pub with_link : LinkMap → ℕ → Option ℕ → Option ℕ → LinkMap
with_link link_map q u v j = if j == q then Some (link u v) else link_map j

alone_at : (b : Bool) (v : Option ℕ) (s : Option Interlinks)
    → (if b then option_map (with_next v) (if b then option_map (with_prev None) (if b then Some (link None None) else s) else (if b then Some (link None None) else s))
    else (if b then option_map (with_prev None) (if b then Some (link None None) else s) else (if b then Some (link None None) else s)))
    ≡ (if b then Some (link None v) else s)
alone_at true v s = refl
alone_at false v s = refl

after_at : (b c : Bool) (a q : ℕ) (v : Option ℕ) (s : Option Interlinks) → (b ≡ true → c ≡ true → v ≡ Some q)
    → (if b then option_map (with_next v) (if b then option_map (with_prev (Some a)) (if c then option_map (with_next (Some q)) (if b then Some (link None None) else s) else (if b then Some (link None None) else s))
    else (if c then option_map (with_next (Some q)) (if b then Some (link None None) else s) else (if b then Some (link None None) else s)))
    else (if b then option_map (with_prev (Some a)) (if c then option_map (with_next (Some q)) (if b then Some (link None None) else s) else (if b then Some (link None None) else s))
    else (if c then option_map (with_next (Some q)) (if b then Some (link None None) else s) else (if b then Some (link None None) else s))))
    ≡ (if c then option_map (with_next (Some q)) (if b then Some (link (Some a) v) else s) else (if b then Some (link (Some a) v) else s))
after_at true true a q v s itself = ap (λ (o : Option ℕ). Some (link (Some a) o)) (itself refl refl)
after_at true false a q v s itself = refl
after_at false true a q v s itself = refl
after_at false false a q v s itself = refl

named_alike : (link_map : LinkMap) (q : ℕ) (u v : Option ℕ) → (u ≡ Some q → v ≡ Some q) → (j : ℕ)
    → with_next_at (with_prev_at (with_next_at (with_lone link_map q) u (Some q)) (Some q) u) (Some q) v j ≡ with_next_at (with_link link_map q u v) u (Some q) j
named_alike link_map q None v itself j = alone_at (j == q) v (link_map j)
named_alike link_map q (Some a) v itself j =
    after_at (j == q) (j == a) a q v (link_map j) (λ at_q at_a. itself (ap Some (sym (eqb-true j a at_a) ∙ eqb-true j q at_q)))

pub inserted_by_writes : (link_map : LinkMap) (q : ℕ) (u v : Option ℕ) → (u ≡ Some q → v ≡ Some q)
    → with_prev_at (with_next_at (with_link link_map q u v) u (Some q)) v (Some q) ≡ with_insertion link_map q u v
inserted_by_writes link_map q u v itself = ap (λ (s : LinkMap). with_prev_at s v (Some q)) (sym (fun_ext (named_alike link_map q u v itself)))

ringed_at : (b : Bool) (q : ℕ) (s : Option Interlinks) → (let lone = (if b then Some (link None None) else s) in let named = (if b then option_map (with_next (Some q)) lone else lone) in if b then option_map (with_prev (Some q)) named else named)
    ≡ (if b then Some (link (Some q) (Some q)) else s)
ringed_at true q s = refl
ringed_at false q s = refl

pub ringed_by_writes : (link_map : LinkMap) (q : ℕ) → with_neighbors (with_lone link_map q) (Some q) (Some q) ≡ with_insertion link_map q (Some q) (Some q)
ringed_by_writes link_map q = fun_ext (λ j. ringed_at (j == q) q (link_map j)) ∙ fun_ext (λ j. ringed_twice (j == q) q (link_map j)) where
  ringed_twice : (b : Bool) (q : ℕ) (s : Option Interlinks) → (if b then Some (link (Some q) (Some q)) else s)
      ≡ (let lone = (if b then Some (link None None) else s) in let named = (if b then option_map (with_next (Some q)) lone else lone) in let both = (if b then option_map (with_prev (Some q)) named else named) in
      let again = (if b then option_map (with_next (Some q)) both else both) in if b then option_map (with_prev (Some q)) again else again)
  ringed_twice true q s = refl
  ringed_twice false q s = refl

pub alone_by_writes : (link_map : LinkMap) (q : ℕ) → with_insertion link_map q None None ≡ with_lone link_map q
alone_by_writes link_map q = fun_ext (λ j. alone_written (j == q) (link_map j)) where
  alone_written : (b : Bool) (s : Option Interlinks)
      → (let lone = (if b then Some (link None None) else s) in let before = (if b then option_map (with_prev None) lone else lone) in if b then option_map (with_next None) before else before)
      ≡ (if b then Some (link None None) else s)
  alone_written true s = refl
  alone_written false s = refl
