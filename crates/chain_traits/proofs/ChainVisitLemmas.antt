-- The links of a chain, visited one after another.
use Rattle.std.proofs.Common.{◌≡◌, ◌≢◌, ℕ, List, [], ◌∷◌, ◌++◌, map, Option, Some, inl, inr, ⊎_elim, refl, sym, ap, ap₂, ◌∙◌, subst, append_assoc}
use Rattle.std.specs.List.{FoldsTo}
use Rattle.std.specs.Fn.{Mut}
use Rattle.std.specs.Option.{option_map}
use Rattle.std.proofs.lemmas.Bool.{cases_eq}
use Rattle.std.proofs.lemmas.Fn.{FoldsTo-push}
use Rattle.std.proofs.lemmas.List.{map-append}
use denote.Ref.{MutBor}
use Rattle.arena_traits.specs.Entries.{ArenaView, ArenaState, with_replacement, view_with_value}
use Rattle.arena_traits.proofs.EntryChangeLemmas.{valued, writes_first, writes_later, value_there, values_elsewhere}
use Rattle.chain_laws.specs.Chains.{LinkMap, IsMember, AreDistinct}
use Rattle.chain_laws.specs.Walks.{IsWalk}
use Rattle.chain_laws.proofs.ListLemmas.Members.{IsMember-left, IsMember-right, AreDistinct-apart}
use Rattle.chain_traits.specs.ChainVisits.{LinkVisit, IsLinkVisit, VisitsWalk, IsChainVisited}

module _ {X Y : Type 0} where
  push_alike : (f h : X → Y) (xs : List X) (x : X) → map f xs ≡ map h xs → f x ≡ h x → map f (xs ++ x ∷ []) ≡ map h (xs ++ x ∷ [])
  push_alike f h xs x same last = map-append f xs (x ∷ []) ∙ (ap₂ (λ (l : List Y) (y : Y). l ++ y ∷ []) same last ∙ sym (map-append h xs (x ∷ [])))

  alike_at : (at : X → ℕ) (f h : ℕ → Y) (xs : List X) → ((i : ℕ) → IsMember (map at xs) i → f i ≡ h i) → map (λ x. f (at x)) xs ≡ map (λ x. h (at x)) xs
  alike_at at f h [] same = refl
  alike_at at f h (x ∷ xs) same = ap₂ (λ (y : Y) (l : List Y). y ∷ l) (same (at x) (inl refl)) (alike_at at f h xs (λ i has. same i (inr has)))

  map_twice : (at : X → ℕ) (f : ℕ → Y) (xs : List X) → map (λ x. f (at x)) xs ≡ map f (map at xs)
  map_twice at f [] = refl
  map_twice at f (x ∷ xs) = ap (λ (l : List Y). f (at x) ∷ l) (map_twice at f xs)

keys-written : {Gen T : Type 0} (i : ℕ) (t : T) (es : List ((ℕ × Gen) × T)) → map (λ e. e.0) (with_replacement i (valued t) es) ≡ map (λ e. e.0) es
keys-written i t [] = refl
keys-written {Gen} {T} i t (e ∷ es) = ⊎_elim
    (λ is. ap (map (λ (x : (ℕ × Gen) × T). x.0)) (writes_first i t e es is) ∙ ap (λ (n : ℕ). let k : ℕ × Gen = (n, e.0.1) in k ∷ map (λ (x : (ℕ × Gen) × T). x.0) es) (sym is))
    (λ other. ap (map (λ (x : (ℕ × Gen) × T). x.0)) (writes_later i t e es other) ∙ ap (λ (l : List (ℕ × Gen)). e.0 ∷ l) (keys-written i t es))
    (cases_eq e.0.0 i)

module _ {A Gen T : Type 0} {view : A → ArenaView Gen T} {entry : A → ℕ → Option (Gen × T)} (state : (a : A) → ArenaState (view a) (entry a)) (interlinks : A → LinkMap)
    {F P : Type 0} (g : Mut F (P × (MutBor T × Unit {0})) (Unit {0} × (MutBor T × Unit {0}))) (key : P → ℕ × Gen) where
  pub record IsVisiting (first : F) (old : A) (whole : List ℕ) (f : F) (now : A) (ahead : List ℕ) : Type 0 where
    pub visits : List (LinkVisit P T)
    pub in_turn : FoldsTo (IsLinkVisit g) first visits f
    pub parts : map (λ v. (key v.ptr).0) visits ++ ahead ≡ whole
    pub before : map (λ v. Some ((key v.ptr).1, v.value)) visits ≡ map (λ v. entry old (key v.ptr).0) visits
    pub after : map (λ v. Some ((key v.ptr).1, v.left)) visits ≡ map (λ v. entry now (key v.ptr).0) visits
    pub rest : (i : ℕ) → (IsMember (map (λ v. (key v.ptr).0) visits) i → ⊥) → entry now i ≡ entry old i
    pub links : interlinks now ≡ interlinks old
    pub pointers : map (λ e. e.0) (view now).entries ≡ map (λ e. e.0) (view old).entries
    pub view_after : view now ≡ record (view old) { entries = (view now).entries }

  pub visiting_begins : (first : F) (old : A) (whole : List ℕ) → IsVisiting first old whole first old whole
  visiting_begins first old whole = record { visits = []; in_turn = refl; parts = refl; before = refl; after = refl; rest = λ i has_not. refl; links = refl; pointers = refl; view_after = refl }

  module _ (first : F) (old : A) (whole : List ℕ) (once : AreDistinct whole) (f : F) (now : A) (ahead : List ℕ) (is : IsVisiting first old whole f now ahead)
      (v : LinkVisit P T) (next : F) (new : A) (left : List ℕ) (step : ahead ≡ (key v.ptr).0 ∷ left) (visit : IsLinkVisit g f v next)
      (stored : entry now (key v.ptr).0 ≡ Some ((key v.ptr).1, v.value)) (written : view new ≡ view_with_value (view now) (key v.ptr).0 v.left) (same_links : interlinks new ≡ interlinks now) where
    abbrev index : LinkVisit P T → ℕ
    index u = (key u.ptr).0

    abbrev k : ℕ
    k = index v

    unvisited : IsMember (map index is.visits) k → ⊥
    unvisited has = AreDistinct-apart (map index is.visits) (k ∷ left) k (subst (λ (l : List ℕ). AreDistinct (map index is.visits ++ l)) step (subst AreDistinct (sym is.parts) once)) has (inl refl)

    other : (i : ℕ) → IsMember (map index is.visits) i → i ≢ k
    other i has same = unvisited (subst (IsMember (map index is.visits)) same has)

    pushed : map index (is.visits ++ v ∷ []) ≡ map index is.visits ++ k ∷ []
    pushed = map-append index is.visits (v ∷ [])

    pub visiting_goes_on : IsVisiting first old whole next new left
    visiting_goes_on = record {
      visits = is.visits ++ v ∷ [];
      in_turn = FoldsTo-push (IsLinkVisit g) first is.visits f v next is.in_turn visit;
      parts = ap (λ (l : List ℕ). l ++ left) pushed ∙ (append_assoc (map index is.visits) (k ∷ []) left ∙ (ap (λ (l : List ℕ). map index is.visits ++ l) (sym step) ∙ is.parts));
      before = push_alike (λ u. Some ((key u.ptr).1, u.value)) (λ u. entry old (index u)) is.visits v is.before (sym stored ∙ is.rest k unvisited);
      after = push_alike (λ u. Some ((key u.ptr).1, u.left)) (λ u. entry new (index u)) is.visits v
          (is.after ∙ sym (alike_at index (entry new) (entry now) is.visits (λ i has. values_elsewhere state now new k v.left written i (other i has))))
          (sym (value_there state now new k v.left written ∙ ap (option_map (valued v.left)) stored));
      rest = λ i has_not.
          let out : IsMember (map index is.visits ++ k ∷ []) i → ⊥ = λ has. has_not (subst (λ (l : List ℕ). IsMember l i) (sym pushed) has) in
          values_elsewhere state now new k v.left written i (λ same. out (IsMember-right (map index is.visits) (k ∷ []) i (inl (sym same))))
          ∙ is.rest i (λ has. out (IsMember-left (map index is.visits) (k ∷ []) i has));
      links = same_links ∙ is.links;
      pointers = ap (λ (s : ArenaView Gen T). map (λ e. e.0) s.entries) written ∙ (keys-written k v.left (view now).entries ∙ is.pointers);
      view_after = written ∙ (ap (λ (s : ArenaView Gen T). record s { entries = with_replacement k (valued v.left) (view now).entries }) is.view_after
          ∙ ap (λ (es : List ((ℕ × Gen) × T)). record (view old) { entries = es }) (ap (λ (s : ArenaView Gen T). s.entries) (sym written)));
    }

  pub chain_visited : (first : F) (old : A) (i : ℕ) (whole : List ℕ) (f : F) (now : A) (ahead : List ℕ) (is : IsVisiting first old whole f now ahead) → IsWalk (interlinks old) i (map (λ v. (key v.ptr).0) is.visits)
      → IsChainVisited state interlinks g key first old i now
  chain_visited first old i whole f now ahead is walk =
      let index : LinkVisit P T → ℕ = λ v. (key v.ptr).0 in
      record {
        walk = map index is.visits;
        is_walk = walk;
        visits = record {
          visits = is.visits;
          last = f;
          in_turn = is.in_turn;
          indexes = refl;
          before = is.before ∙ map_twice index (entry old) is.visits;
          after = is.after ∙ map_twice index (entry now) is.visits;
          rest = is.rest;
        };
        links = is.links;
        pointers = is.pointers;
        view_after = is.view_after;
      }

module _ {F P T Gen : Type 0} (g : Mut F (P × (MutBor T × Unit {0})) (Unit {0} × (MutBor T × Unit {0}))) (key : P → ℕ × Gen) (Keeps : F → Type 0) (Writes : T → T → Type 0)
    (each : (f : F) (v : LinkVisit P T) (next : F) → Keeps f → IsLinkVisit g f v next → Writes v.value v.left × Keeps next) (old new : ℕ → Option (Gen × T)) where
  pub record IsWrittenAt (i : ℕ) : Type 0 where
    pub generation : Gen
    pub value : T
    pub left : T
    pub was_stored : old i ≡ Some (generation, value)
    pub stored : new i ≡ Some (generation, left)
    pub writes : Writes value left

  same_first : {X : Type 0} (x y : X) (xs ys : List X) → x ∷ xs ≡ y ∷ ys → (x ≡ y) × (xs ≡ ys)
  same_first x y xs ys same = (let h = same in cc, let h = same in cc)

  written_at : (visits : List (LinkVisit P T)) (f last : F) → Keeps f → FoldsTo (IsLinkVisit g) f visits last
      → map (λ v. Some ((key v.ptr).1, v.value)) visits ≡ map old (map (λ v. (key v.ptr).0) visits) → map (λ v. Some ((key v.ptr).1, v.left)) visits ≡ map new (map (λ v. (key v.ptr).0) visits)
      → (i : ℕ) → IsMember (map (λ v. (key v.ptr).0) visits) i → IsWrittenAt i
  written_at [] f last keeps folds before after i has = absurd has
  written_at (v ∷ visits) f last keeps folds before after i (inl same) =
      let was = (same_first _ _ _ _ before).0 in
      let is = (same_first _ _ _ _ after).0 in
      subst IsWrittenAt same (record { generation = (key v.ptr).1; value = v.value; left = v.left; was_stored = sym was; stored = sym is; writes = (each f v folds.0 keeps folds.1).0 })
  written_at (v ∷ visits) f last keeps folds before after i (inr has) =
      written_at visits folds.0 last (each f v folds.0 keeps folds.1).1 folds.2 (same_first _ _ _ _ before).1 (same_first _ _ _ _ after).1 i has

  pub each_written : (f : F) (walk : List ℕ) → Keeps f → VisitsWalk g key f old new walk → (i : ℕ) → IsMember walk i → IsWrittenAt i
  each_written f walk keeps made i has = written_at made.visits f made.last keeps made.in_turn (made.before ∙ ap (map old) (sym made.indexes)) (made.after ∙ ap (map new) (sym made.indexes)) i
      (subst (λ (l : List ℕ). IsMember l i) (sym made.indexes) has)

pub each_mapped : {F P T Gen : Type 0} (g : Mut F (P × (MutBor T × Unit {0})) (Unit {0} × (MutBor T × Unit {0}))) (key : P → ℕ × Gen) (h : T → T) (f : F)
    → ((v : LinkVisit P T) (next : F) → IsLinkVisit g f v next → (v.left ≡ h v.value) × (next ≡ f)) → (old new : ℕ → Option (Gen × T)) (walk : List ℕ)
    → VisitsWalk g key f old new walk → (i : ℕ) → IsMember walk i → new i ≡ option_map (λ e. (e.0, h e.1)) (old i)
each_mapped {T = T} {Gen = Gen} g key h f each old new walk made i has =
    let is = each_written g key (λ u. u ≡ f) (λ value left. left ≡ h value) (λ u v next same called. each v next (subst (λ w. IsLinkVisit g w v next) same called)) old new f walk refl made i has in
    is.stored ∙ (ap (λ (t : T). let o : Option (Gen × T) = Some (is.generation, t) in o) is.writes ∙ sym (ap (option_map (λ (e : Gen × T). (e.0, h e.1))) is.was_stored))
