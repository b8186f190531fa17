-- The keys, and their sets, after a closure visited the members.
use Rattle.std.proofs.Common.{◌≡◌, ℕ, List, [], ◌∷◌, map, refl, ap, ◌∙◌, subst}
use Rattle.std.specs.List.{FoldsTo}
use Rattle.std.specs.Fn.{Mut}
use denote.Ref.{MutBor}
use Rattle.arena_traits.specs.Compressions.{Visit, IsVisit, VisitsAll}
use Rattle.surject_arena.specs.declared.members.Member.{Member}
use Rattle.surject_arena.specs.Renames.{visit, keys_of, AreMatched}

pub matched_by : {X Y Z : Type 0} (f : Z → X) (h : Z → Y) (zs : List Z) (matches : X → Y → Type 0) → ((z : Z) → matches (f z) (h z)) → AreMatched matches (map f zs) (map h zs)
matched_by f h [] matches each = tt
matched_by f h (z ∷ zs) matches each = (each z, matched_by f h zs matches each)

module _ {F G P Gen K : Type 0} (g : Mut G (P × (MutBor (Member P K) × (P × Unit {0}))) (Unit {0} × (MutBor (Member P K) × Unit {0}))) (h : Mut F (P × (MutBor K × (P × Unit {0}))) (Unit {0} × (MutBor K × Unit {0}))) (key : P → ℕ × Gen) where
  abbrev of_key : Visit P (Member P K) → Visit P K
  of_key v = visit v.from v.value.key v.to v.left.key

  module _ (map_of : G → F) (each : (f : G) (v : Visit P (Member P K)) (next : G) → IsVisit g f v next → IsVisit h (map_of f) (of_key v) (map_of next)) where
    folded : (visits : List (Visit P (Member P K))) (f last : G) → FoldsTo (IsVisit g) f visits last → FoldsTo (IsVisit h) (map_of f) (map of_key visits) (map_of last)
    folded [] f last folds = ap map_of folds
    folded (v ∷ visits) f last folds = (map_of folds.0, each f v folds.0 folds.1, folded visits folds.0 last folds.2)

    was : (visits : List (Visit P (Member P K))) → map (λ v. (key v.from, v.value)) (map of_key visits) ≡ keys_of (map (λ v. (key v.from, v.value)) visits)
    was [] = refl
    was (v ∷ visits) = ap (λ l. (key v.from, v.value.key) ∷ l) (was visits)

    is : (visits : List (Visit P (Member P K))) → map (λ v. (key v.to, v.left)) (map of_key visits) ≡ keys_of (map (λ v. (key v.to, v.left)) visits)
    is [] = refl
    is (v ∷ visits) = ap (λ l. (key v.to, v.left.key) ∷ l) (is visits)

    pub keys_visited : {f : G} {old new : List ((ℕ × Gen) × Member P K)} → VisitsAll g key f old new → VisitsAll h key (map_of f) (keys_of old) (keys_of new)
    keys_visited {f = f} v = record {
      visits = map of_key v.visits;
      last = map_of v.last;
      in_turn = folded v.visits f v.last v.in_turn;
      before = was v.visits ∙ ap keys_of v.before;
      after = is v.visits ∙ ap keys_of v.after;
    }

  module _ (Keeps : G → Type 0) (matches : (ℕ × Gen) × Member P K → (ℕ × Gen) × Member P K → Type 0)
      (each : (f : G) (v : Visit P (Member P K)) (next : G) → Keeps f → IsVisit g f v next → matches (key v.from, v.value) (key v.to, v.left) × Keeps next) where
    matched : (visits : List (Visit P (Member P K))) (f last : G) → Keeps f → FoldsTo (IsVisit g) f visits last → AreMatched matches (map (λ v. (key v.from, v.value)) visits) (map (λ v. (key v.to, v.left)) visits)
    matched [] f last keeps folds = tt
    matched (v ∷ visits) f last keeps folds = let now = each f v folds.0 keeps folds.1 in (now.0, matched visits folds.0 last now.1 folds.2)

    pub members_matched : {f : G} {old new : List ((ℕ × Gen) × Member P K)} → Keeps f → VisitsAll g key f old new → AreMatched matches old new
    members_matched {f = f} {old = old} keeps v = subst (AreMatched matches old) v.after (subst (λ l. AreMatched matches l (map (λ v. (key v.to, v.left)) v.visits)) v.before (matched v.visits f v.last keeps v.in_turn))
