-- Writes to links in the state of a chain arena.
use Rattle.std.proofs.Common.{◌≡◌, ◌≢◌, ℕ, suc, List, Bool, true, false, Option, None, Some, refl, ap, ap₂, sym, ◌∙◌, ⊎_elim}
use Rattle.std.specs.Prelude.{◌==◌, if◌then◌else◌, is_some}
use Rattle.std.specs.Option.{option_map}
use Rattle.chain_laws.specs.Chains.{LinkMap, Interlinks}
use Rattle.chain_laws.specs.Joins.{with_next_at, with_prev_at, with_neighbors, with_next, with_prev}
use Rattle.std.proofs.lemmas.Bool.{cases_eq}
use Rattle.std.proofs.lemmas.List.{ext_get_or}
use mathlib.Core.Path.{fun_ext}
use Rattle.chain_laws.proofs.InterlinkLemmas.Inverses.{if_same, if_other, one_some}
use Rattle.chain_links.specs.declared.links.RawLink.{RawLink}
use Rattle.chain_links.specs.Links.{link_view, pair_view, links_view}
use Rattle.arena_traits.specs.Arena.{Arena, entry_at, with_value}
use Rattle.chain_links.specs.ChainArena.{on_value, link_value, values_of, LinkView, link_map, relink, with_link_map, interlinks_of, interlinks_in, with_interlinks}
use Rattle.chain_links.proofs.MappedArenaLemmas.{is_some-map, entry_at-with_each, length-with_each}
use Rattle.chain_links.proofs.LinkStateLemmas.{is_relinked, entry_at-with_link_map, entry_at-with_value, entry_at-links_view, length-with_value, length-links_view, length-with_link_map}

pub is_some-if : (b : Bool) (change : Interlinks → Interlinks) (l : Option Interlinks) → is_some (if b then option_map change l else l) ≡ is_some l
is_some-if true change l = is_some-map change l
is_some-if false change l = refl

module _ {Gen T : Type 0} where
  pub relink-own : (o : Option (Gen × LinkView T)) → o ≡ relink (option_map interlinks_of o) o
  relink-own None = refl
  relink-own (Some e) = refl

  pub with_link_map-own : (a : Arena Gen (LinkView T)) → a ≡ with_link_map a (link_map a)
  with_link_map-own a = is_relinked a a (link_map a) refl refl (λ i. relink-own (entry_at a i))

  -- Interlinks for exactly the links of the arena.
  abbrev pub FitsLinks : LinkMap → Arena Gen (LinkView T) → Type 0
  FitsLinks interlinks a = (i : ℕ) → is_some (interlinks i) ≡ is_some (entry_at a i)

  interlinks-relink : (l : Option Interlinks) (o : Option (Gen × LinkView T)) → is_some l ≡ is_some o → option_map interlinks_of (relink l o) ≡ l
  interlinks-relink None None same = refl
  interlinks-relink (Some l) None same = absurd (let h = same in cc)
  interlinks-relink None (Some e) same = absurd (let h = same in cc)
  interlinks-relink (Some l) (Some e) same = refl

  relink-again : (l m : Option Interlinks) (o : Option (Gen × LinkView T)) → is_some l ≡ is_some o → relink m (relink l o) ≡ relink m o
  relink-again l m None same = refl
  relink-again None m (Some e) same = absurd (let h = same in cc)
  relink-again (Some l) None (Some e) same = refl
  relink-again (Some l) (Some m) (Some e) same = refl

  pub link_map-with_link_map : (a : Arena Gen (LinkView T)) (interlinks : LinkMap) → FitsLinks interlinks a → link_map (with_link_map a interlinks) ≡ interlinks
  link_map-with_link_map a interlinks fits = fun_ext (λ i. ap (option_map interlinks_of) (entry_at-with_link_map a interlinks i) ∙ interlinks-relink (interlinks i) (entry_at a i) (fits i))

  pub with_link_map-again : (a : Arena Gen (LinkView T)) (first second : LinkMap) → FitsLinks first a → with_link_map (with_link_map a first) second ≡ with_link_map a second
  with_link_map-again a first second fits = is_relinked a (with_link_map (with_link_map a first) second) second
      (length-with_link_map (with_link_map a first) second ∙ length-with_link_map a first) refl
      (λ i. entry_at-with_link_map (with_link_map a first) second i ∙ (ap (relink (second i)) (entry_at-with_link_map a first i) ∙ relink-again (first i) (second i) (entry_at a i) (fits i)))

  pub FitsLinks-link_map : (a : Arena Gen (LinkView T)) → FitsLinks (link_map a) a
  FitsLinks-link_map a i = is_some-map interlinks_of (entry_at a i)

  pub FitsLinks-with_next_at : (a : Arena Gen (LinkView T)) (interlinks : LinkMap) (u v : Option ℕ) → FitsLinks interlinks a → FitsLinks (with_next_at interlinks u v) a
  FitsLinks-with_next_at a interlinks None v fits i = fits i
  FitsLinks-with_next_at a interlinks (Some u) v fits i = is_some-if (i == u) (with_next v) (interlinks i) ∙ fits i

  pub FitsLinks-with_prev_at : (a : Arena Gen (LinkView T)) (interlinks : LinkMap) (u v : Option ℕ) → FitsLinks interlinks a → FitsLinks (with_prev_at interlinks u v) a
  FitsLinks-with_prev_at a interlinks None v fits i = fits i
  FitsLinks-with_prev_at a interlinks (Some u) v fits i = is_some-if (i == u) (with_prev v) (interlinks i) ∙ fits i

  value-relink : (l : Option Interlinks) (o : Option (Gen × LinkView T)) → is_some l ≡ is_some o → option_map (on_value link_value) (relink l o) ≡ option_map (on_value link_value) o
  value-relink l None same = refl
  value-relink None (Some e) same = absurd (let h = same in cc)
  value-relink (Some l) (Some e) same = refl

  pub values_of-with_link_map : (a : Arena Gen (LinkView T)) (interlinks : LinkMap) → FitsLinks interlinks a → values_of (with_link_map a interlinks) ≡ values_of a
  values_of-with_link_map a interlinks fits =
      ap (λ (slots : List (Option (Gen × T))). let b : Arena Gen T = record (values_of a) { slots = slots } in b)
      (ext_get_or None (values_of (with_link_map a interlinks)).slots (values_of a).slots
      (length-with_each link_value (with_link_map a interlinks) ∙ (length-with_link_map a interlinks ∙ sym (length-with_each link_value a)))
      (λ k inside. entry_at-with_each link_value (with_link_map a interlinks) (suc k)
      ∙ (ap (option_map (on_value link_value)) (entry_at-with_link_map a interlinks (suc k))
      ∙ (value-relink (interlinks (suc k)) (entry_at a (suc k)) (fits (suc k)) ∙ sym (entry_at-with_each link_value a (suc k))))))

  pub FitsLinks-linked : (a : Arena Gen (LinkView T)) (u v : Option ℕ) → FitsLinks (with_neighbors (link_map a) u v) a
  FitsLinks-linked a u v = FitsLinks-with_prev_at a (with_next_at (link_map a) u v) v u (FitsLinks-with_next_at a (link_map a) u v (FitsLinks-link_map a))

  pub next_and_prev_written : (a b c : Arena Gen (LinkView T)) (u next v prev : Option ℕ) → b ≡ with_link_map a (with_next_at (link_map a) u next) → c ≡ with_link_map b (with_prev_at (link_map b) v prev)
      → c ≡ with_link_map a (with_prev_at (with_next_at (link_map a) u next) v prev)
  next_and_prev_written a b c u next v prev first second =
      let followed = with_next_at (link_map a) u next in
      let fits : FitsLinks followed a = FitsLinks-with_next_at a (link_map a) u next (FitsLinks-link_map a) in
      second
      ∙ (ap (λ (x : Arena Gen (LinkView T)). with_link_map x (with_prev_at (link_map x) v prev)) first
      ∙ (ap (λ (m : LinkMap). with_link_map (with_link_map a followed) (with_prev_at m v prev)) (link_map-with_link_map a followed fits)
      ∙ with_link_map-again a followed (with_prev_at followed v prev) fits))

  pub arena_with_pairs : (a b c : Arena Gen (LinkView T)) (u v w x : Option ℕ) → b ≡ with_link_map a (with_neighbors (link_map a) u v) → c ≡ with_link_map b (with_neighbors (link_map b) w x)
      → c ≡ with_link_map a (with_neighbors (with_neighbors (link_map a) u v) w x)
  arena_with_pairs a b c u v w x first second =
      let one : LinkMap = with_neighbors (link_map a) u v in
      let fits : FitsLinks one a = FitsLinks-linked a u v in
      second ∙ (ap (λ (y : Arena Gen (LinkView T)). with_link_map y (with_neighbors (link_map y) w x)) first
      ∙ (ap (λ (m : LinkMap). with_link_map (with_link_map a one) (with_neighbors m w x)) (link_map-with_link_map a one fits) ∙ with_link_map-again a one (with_neighbors one w x) fits))

  pub FitsLinks-twice : (a : Arena Gen (LinkView T)) (u v w x : Option ℕ) → FitsLinks (with_neighbors (with_neighbors (link_map a) u v) w x) a
  FitsLinks-twice a u v w x = FitsLinks-with_prev_at a (with_next_at (with_neighbors (link_map a) u v) w x) x w (FitsLinks-with_next_at a (with_neighbors (link_map a) u v) w x (FitsLinks-linked a u v))

-- As contracts see links, `write` changes their interlinks by `change`.
abbrev pub IsWrite : {K T : Type 0} → (K → Option ℕ) → (RawLink K T → RawLink K T) → (Interlinks → Interlinks) → Type 0
IsWrite {K} {T} number write change = (l : RawLink K T) → link_view number (write l) ≡ with_interlinks (change (interlinks_in (link_view number l))) (link_view number l)

module _ {Gen K T : Type 0} (number : K → Option ℕ) where
  view_after-write : (o : Option (Gen × RawLink K T)) (link : RawLink K T) (write : RawLink K T → RawLink K T) (change : Interlinks → Interlinks) → IsWrite number write change
      → option_map (λ (e : Gen × RawLink K T). e.1) o ≡ Some link
      → option_map (pair_view number) (option_map (λ (e : Gen × RawLink K T). (e.0, write link)) o)
      ≡ relink (option_map change (option_map interlinks_of (option_map (pair_view number) o))) (option_map (pair_view number) o)
  view_after-write None link write change is stored = refl
  view_after-write (Some e) link write change is stored =
      ap (λ (l : RawLink K T). let o : Option (Gen × LinkView T) = Some (e.0, link_view number (write l)) in o) (sym (one_some stored)) ∙ ap (λ (l : LinkView T). let o : Option (Gen × LinkView T) = Some (e.0, l) in o) (is e.1)

  pub links_view-write : (a : Arena Gen (RawLink K T)) (n : ℕ) (link : RawLink K T) (write : RawLink K T → RawLink K T) (change : Interlinks → Interlinks) (interlinks : LinkMap) → IsWrite number write change
      → option_map (λ (e : Gen × RawLink K T). e.1) (entry_at a n) ≡ Some link
      → ((i : ℕ) → interlinks i ≡ (if i == n then option_map change (link_map (links_view number a) i) else link_map (links_view number a) i))
      → links_view number (with_value a n (write link)) ≡ with_link_map (links_view number a) interlinks
  links_view-write a n link write change interlinks is stored are =
      let view_after = links_view number a in
      let w = write link in
      let at : (i : ℕ) → i ≡ n → entry_at (links_view number (with_value a n w)) i ≡ relink (interlinks i) (entry_at view_after i) =
      (λ i same. entry_at-links_view number (with_value a n w) i
      ∙ (ap (option_map (pair_view number)) (entry_at-with_value a n w i ∙ if_same i n _ _ same)
      ∙ (view_after-write (entry_at a i) link write change is (ap (λ k. option_map (λ (e : Gen × RawLink K T). e.1) (entry_at a k)) same ∙ stored)
      ∙ ap₂ relink (ap (λ o. option_map change (option_map interlinks_of o)) (sym (entry_at-links_view number a i)) ∙ sym (are i ∙ if_same i n _ _ same)) (sym (entry_at-links_view number a i))))) in
      let elsewhere : (i : ℕ) → i ≢ n → entry_at (links_view number (with_value a n w)) i ≡ relink (interlinks i) (entry_at view_after i) =
      (λ i other. entry_at-links_view number (with_value a n w) i
      ∙ (ap (option_map (pair_view number)) (entry_at-with_value a n w i ∙ if_other i n _ _ other)
      ∙ (sym (entry_at-links_view number a i)
      ∙ (relink-own (entry_at view_after i) ∙ ap (λ l. relink l (entry_at view_after i)) (sym (are i ∙ if_other i n _ _ other)))))) in
      is_relinked view_after (links_view number (with_value a n w)) interlinks
      (length-links_view number (with_value a n w) ∙ (length-with_value a n w ∙ sym (length-links_view number a))) refl
      (λ i. ⊎_elim (at i) (elsewhere i) (cases_eq i n))
