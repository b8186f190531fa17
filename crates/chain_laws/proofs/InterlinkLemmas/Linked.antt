-- What `linked` does at each index.
use Rattle.std.specs.Prelude.{◌≡◌, ◌≢◌, ◌↔◌, ℕ, ◌==◌, if◌then◌else◌, Option, None, Some}
use Rattle.std.specs.Option.{option_map}
use Rattle.std.proofs.Common.{sym, refl, ap, ◌∙◌, subst, ⊎_elim}
use Rattle.std.proofs.lemmas.Bool.{cases_eq}
use Rattle.chain_laws.specs.Chains.{LinkMap, Interlinks, prev_in, next_in, prev_of, next_of, HasLink}
use Rattle.chain_laws.specs.Joins.{with_prev, with_next, with_prev_at, with_next_at, with_neighbors}
use Rattle.chain_laws.proofs.InterlinkLemmas.Inverses.{altered, if_same, if_other, altered-same, altered-other, one_some}

abbrev pub IsElsewhere : Option ℕ → ℕ → Type 0
IsElsewhere u j = (i : ℕ) → u ≡ Some i → j ≢ i

abbrev pub IsValidAt : LinkMap → Option ℕ → Type 0
IsValidAt link_map u = (i : ℕ) → u ≡ Some i → HasLink link_map i

pub IsValidAt-Some : (link_map : LinkMap) (i : ℕ) → HasLink link_map i → IsValidAt link_map (Some i)
IsValidAt-Some link_map i valid k e = subst (HasLink link_map) (one_some e) valid

abbrev pub put_at : (ℕ → Option ℕ) → Option ℕ → Option ℕ → ℕ → Option ℕ
put_at f None o j = f j
put_at f (Some i) o j = altered f i o j

pub with_next_at-elsewhere : (link_map : LinkMap) (u v : Option ℕ) (j : ℕ) → IsElsewhere u j → with_next_at link_map u v j ≡ link_map j
with_next_at-elsewhere link_map None v j elsewhere = refl
with_next_at-elsewhere link_map (Some i) v j elsewhere = if_other j i _ _ (elsewhere i refl)

pub with_prev_at-elsewhere : (link_map : LinkMap) (u v : Option ℕ) (j : ℕ) → IsElsewhere u j → with_prev_at link_map u v j ≡ link_map j
with_prev_at-elsewhere link_map None v j elsewhere = refl
with_prev_at-elsewhere link_map (Some i) v j elsewhere = if_other j i _ _ (elsewhere i refl)

pub linked-elsewhere : (link_map : LinkMap) (u v : Option ℕ) (j : ℕ) → IsElsewhere u j → IsElsewhere v j → with_neighbors link_map u v j ≡ link_map j
linked-elsewhere link_map u v j not_u not_v = with_prev_at-elsewhere (with_next_at link_map u v) v u j not_v ∙ with_next_at-elsewhere link_map u v j not_u

pub with_next_at-at : (link_map : LinkMap) (i : ℕ) (v : Option ℕ) (link : Interlinks) → link_map i ≡ Some link → with_next_at link_map (Some i) v i ≡ Some (with_next v link)
with_next_at-at link_map i v link e = if_same i i _ _ refl ∙ ap (option_map (with_next v)) e

pub with_prev_at-at : (link_map : LinkMap) (i : ℕ) (u : Option ℕ) (link : Interlinks) → link_map i ≡ Some link → with_prev_at link_map (Some i) u i ≡ Some (with_prev u link)
with_prev_at-at link_map i u link e = if_same i i _ _ refl ∙ ap (option_map (with_prev u)) e

prev_in-with_next : (v : Option ℕ) (o : Option Interlinks) → prev_in (option_map (with_next v) o) ≡ prev_in o
prev_in-with_next v None = refl
prev_in-with_next v (Some link) = refl

next_in-with_prev : (u : Option ℕ) (o : Option Interlinks) → next_in (option_map (with_prev u) o) ≡ next_in o
next_in-with_prev u None = refl
next_in-with_prev u (Some link) = refl

pub prev_of-with_next_at : (link_map : LinkMap) (u v : Option ℕ) (j : ℕ) → prev_of (with_next_at link_map u v) j ≡ prev_of link_map j
prev_of-with_next_at link_map None v j = refl
prev_of-with_next_at link_map (Some i) v j = ⊎_elim
    (λ e. ap prev_in (if_same j i _ _ e) ∙ prev_in-with_next v (link_map j))
    (λ ne. ap prev_in (if_other j i _ _ ne))
    (cases_eq j i)

pub next_of-with_prev_at : (link_map : LinkMap) (u v : Option ℕ) (j : ℕ) → next_of (with_prev_at link_map u v) j ≡ next_of link_map j
next_of-with_prev_at link_map None v j = refl
next_of-with_prev_at link_map (Some i) v j = ⊎_elim
    (λ e. ap next_in (if_same j i _ _ e) ∙ next_in-with_prev v (link_map j))
    (λ ne. ap next_in (if_other j i _ _ ne))
    (cases_eq j i)

pub next_of-with_next_at : (link_map : LinkMap) (u v : Option ℕ) (j : ℕ) → IsValidAt link_map u → next_of (with_next_at link_map u v) j ≡ put_at (next_of link_map) u v j
next_of-with_next_at link_map None v j valid = refl
next_of-with_next_at link_map (Some i) v j valid = ⊎_elim
    (λ e. let at_i = valid i refl in
    subst (λ k. next_of (with_next_at link_map (Some i) v) k ≡ v) (sym e) (ap next_in (with_next_at-at link_map i v at_i.link at_i.links)) ∙ sym (altered-same (next_of link_map) i v j e))
    (λ ne. ap next_in (if_other j i _ _ ne) ∙ sym (altered-other (next_of link_map) i v j ne))
    (cases_eq j i)

pub prev_of-with_prev_at : (link_map : LinkMap) (u v : Option ℕ) (j : ℕ) → IsValidAt link_map u → prev_of (with_prev_at link_map u v) j ≡ put_at (prev_of link_map) u v j
prev_of-with_prev_at link_map None v j valid = refl
prev_of-with_prev_at link_map (Some i) v j valid = ⊎_elim
    (λ e. let at_i = valid i refl in
    subst (λ k. prev_of (with_prev_at link_map (Some i) v) k ≡ v) (sym e) (ap prev_in (with_prev_at-at link_map i v at_i.link at_i.links)) ∙ sym (altered-same (prev_of link_map) i v j e))
    (λ ne. ap prev_in (if_other j i _ _ ne) ∙ sym (altered-other (prev_of link_map) i v j ne))
    (cases_eq j i)

pub HasLink-same : (left right : LinkMap) (j : ℕ) → left j ≡ right j → HasLink left j ↔ HasLink right j
HasLink-same left right j e =
    (λ h. record { link = h.link; links = sym e ∙ h.links }, λ h. record { link = h.link; links = e ∙ h.links })

pub HasLink-changed : (left right : LinkMap) (change : Interlinks → Interlinks) (j : ℕ) → left j ≡ option_map change (right j) → HasLink left j ↔ HasLink right j
HasLink-changed left right change j e =
    (λ h. by (right j) refl (sym e ∙ h.links), λ h. record { link = change h.link; links = e ∙ ap (option_map change) h.links })
  where
    by : {link : Interlinks} (o : Option Interlinks) → right j ≡ o → option_map change o ≡ Some link → HasLink right j
    by None links h = absurd (cc)
    by (Some l) links h = record { link = l; links = links }

pub HasLink-with_next_at : (link_map : LinkMap) (u v : Option ℕ) (j : ℕ) → HasLink (with_next_at link_map u v) j ↔ HasLink link_map j
HasLink-with_next_at link_map None v j = (λ h. h, λ h. h)
HasLink-with_next_at link_map (Some i) v j = ⊎_elim
    (λ e. HasLink-changed (with_next_at link_map (Some i) v) link_map (with_next v) j (if_same j i _ _ e))
    (λ ne. HasLink-same (with_next_at link_map (Some i) v) link_map j (if_other j i _ _ ne))
    (cases_eq j i)

pub HasLink-with_prev_at : (link_map : LinkMap) (u v : Option ℕ) (j : ℕ) → HasLink (with_prev_at link_map u v) j ↔ HasLink link_map j
HasLink-with_prev_at link_map None v j = (λ h. h, λ h. h)
HasLink-with_prev_at link_map (Some i) v j = ⊎_elim
    (λ e. HasLink-changed (with_prev_at link_map (Some i) v) link_map (with_prev v) j (if_same j i _ _ e))
    (λ ne. HasLink-same (with_prev_at link_map (Some i) v) link_map j (if_other j i _ _ ne))
    (cases_eq j i)

pub HasLink-linked : (link_map : LinkMap) (u v : Option ℕ) (j : ℕ) → HasLink (with_neighbors link_map u v) j ↔ HasLink link_map j
HasLink-linked link_map u v j =
    let outer = HasLink-with_prev_at (with_next_at link_map u v) v u j in
    let inner = HasLink-with_next_at link_map u v j in
    (λ h. inner.0 (outer.0 h), λ h. outer.1 (inner.1 h))

pub next_of-linked : (link_map : LinkMap) (u v : Option ℕ) (j : ℕ) → IsValidAt link_map u → next_of (with_neighbors link_map u v) j ≡ put_at (next_of link_map) u v j
next_of-linked link_map u v j valid = next_of-with_prev_at (with_next_at link_map u v) v u j ∙ next_of-with_next_at link_map u v j valid

pub prev_of-linked : (link_map : LinkMap) (u v : Option ℕ) (j : ℕ) → IsValidAt link_map v → prev_of (with_neighbors link_map u v) j ≡ put_at (prev_of link_map) v u j
prev_of-linked link_map u v j valid =
    prev_of-with_prev_at (with_next_at link_map u v) v u j (λ i e. (HasLink-with_next_at link_map u v i).1 (valid i e)) ∙ same v
  where
    same : (w : Option ℕ) → put_at (prev_of (with_next_at link_map u v)) w u j ≡ put_at (prev_of link_map) w u j
    same None = prev_of-with_next_at link_map u v j
    same (Some i) = ap (λ o. if j == i then u else o) (prev_of-with_next_at link_map u v j)
