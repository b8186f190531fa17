-- One exchange of slots keeps the invariant of moving entries.
use Rattle.std.proofs.Common.{◌≡◌, ◌≢◌, ℕ, ◌⊎◌, inl, inr, Option, None, Some, refl, sym, ap, ◌∙◌, subst}
use Rattle.std.proofs.Math.Decide.{ℕ_discrete}
use Rattle.chain_compaction.specs.Permutations.{HasDestination, IsSettledAt, StillWaits, HasArrived, IsMoving, HaveMoved}

module _ {E : Type 0} (goal : E → Option ℕ) (Settles : E → E → Type 0) (done : (e f : E) → Settles e f → goal f ≡ None) where
  pub moving_begins : (old : ℕ → Option E)
      → ((i j d : ℕ) (e f : E) → HasDestination goal old i e d → HasDestination goal old j f d → i ≡ j)
      → ((i : ℕ) (e : E) → old i ≡ Some e → (d : ℕ) × (goal e ≡ Some d)) → IsMoving goal Settles old old
  moving_begins old apart each = record {
    apart = apart;
    unsettled = λ i d e f w s n. let g = each d f s in is_not_some f g.0 n g.1;
    there = λ i d e w. inl (i, w);
    back = λ j e s. let g = each j e s in inl (waits_as_ever j e g.0 s g.1);
  }
    where
      is_not_some : (f : E) (d : ℕ) → goal f ≡ None → goal f ≡ Some d → ⊥
      is_not_some f d n s = cc

      waits_as_ever : (j : ℕ) (e : E) (d : ℕ) → old j ≡ Some e → goal e ≡ Some d → StillWaits goal old old j e
      waits_as_ever j e d s to = record { from = j; to = d; waited = record { stored = s; to = to }; waits = record { stored = s; to = to } }

  module _ (now next : ℕ → Option E) (i d : ℕ) (e : E)
      (at_d : IsSettledAt Settles next d e) (at_i : (i ≢ d) → next i ≡ now d) (elsewhere : (j : ℕ) → (j ≢ i) → (j ≢ d) → next j ≡ now j) where
    data Before (j : ℕ) (f : E) (k : ℕ) : Type 0 where
      stayed : (j ≢ i) → (j ≢ d) → HasDestination goal now j f k → Before j f k
      arrived : j ≡ i → (i ≢ d) → HasDestination goal now d f k → Before j f k

    none_at_d : (f : E) (k : ℕ) → next d ≡ Some f → goal f ≡ Some k → ⊥
    none_at_d f k s to =
        let there : next d ≡ Some at_d.entry = at_d.stored in
        let same : at_d.entry ≡ f = cc in
        let none : goal f ≡ None = ap goal (sym same) ∙ done e at_d.entry at_d.settled in
        cc

    before : (j : ℕ) (f : E) (k : ℕ) → HasDestination goal next j f k → Before j f k
    before j f k v = by (ℕ_discrete j d) (ℕ_discrete j i)
      where
        by : Dec (j ≡ d) → Dec (j ≡ i) → Before j f k
        by (yes s) other = absurd (none_at_d f k (ap next (sym s) ∙ v.stored) v.to)
        by (no n) (yes s) =
            let differs : i ≢ d = λ t. n (s ∙ t) in
            arrived s differs (record { stored = sym (at_i differs) ∙ (ap next (sym s) ∙ v.stored); to = v.to })
        by (no n) (no m) = stayed m n (record { stored = sym (elsewhere j m n) ∙ v.stored; to = v.to })

    pub arrived_from : (j : ℕ) (f : E) (k : ℕ) → HasDestination goal next j f k → (l : ℕ) × HasDestination goal now l f k
    arrived_from j f k v = by (before j f k v)
      where
        by : Before j f k → (l : ℕ) × HasDestination goal now l f k
        by (stayed a b u) = (j, u)
        by (arrived s n u) = (d, u)

    pub waited_there : (j : ℕ) (f : E) (k : ℕ) → (j ≢ i) → HasDestination goal next j f k → HasDestination goal now j f k
    waited_there j f k ne v = by (before j f k v)
      where
        by : Before j f k → HasDestination goal now j f k
        by (stayed a b u) = u
        by (arrived s n u) = absurd (ne s)

    module _ (old : ℕ → Option E) (moving : IsMoving goal Settles old now) (w : HasDestination goal now i e d) where
      apart_after : (j l k : ℕ) (f g : E) → HasDestination goal next j f k → HasDestination goal next l g k → j ≡ l
      apart_after j l k f g v u = by (before j f k v) (before l g k u)
        where
          by : Before j f k → Before l g k → j ≡ l
          by (stayed a b v) (stayed c b' u) = moving.apart j l k f g v u
          by (stayed a b v) (arrived s n u) = absurd (b (moving.apart j d k f g v u))
          by (arrived s n v) (stayed c b' u) = absurd (b' (moving.apart l d k g f u v))
          by (arrived s n v) (arrived t m u) = s ∙ sym t

      for_other : (j : ℕ) (f : E) (k : ℕ) → Before j f k → k ≢ d
      for_other j f k (stayed a b v) s = a (moving.apart j i d f e (subst (HasDestination goal now j f) s v) w)
      for_other j f k (arrived s n v) t = n (moving.apart i d d e f w (subst (HasDestination goal now d f) t v))

      unsettled_after : (j k : ℕ) (f g : E) → HasDestination goal next j f k → next k ≡ Some g → goal g ≢ None
      unsettled_after j k f g v s n = by (before j f k v) (ℕ_discrete k i)
        where
          other : k ≢ d
          other = for_other j f k (before j f k v)

          at_first : k ≡ i → (m : ℕ) → HasDestination goal now m f k → ⊥
          at_first t m u =
              let differs : i ≢ d = λ r. other (t ∙ r) in
              moving.unsettled i d e g w (sym (at_i differs) ∙ (ap next (sym t) ∙ s)) n

          at_others : (k ≢ i) → (m : ℕ) → HasDestination goal now m f k → ⊥
          at_others ne m u = moving.unsettled m k f g u (sym (elsewhere k ne other) ∙ s) n

          by : Before j f k → Dec (k ≡ i) → ⊥
          by (stayed a b u) (yes t) = at_first t j u
          by (stayed a b u) (no ne) = at_others ne j u
          by (arrived t m u) (yes r) = at_first r d u
          by (arrived t m u) (no ne) = at_others ne d u

      abbrev Outcome : (k : ℕ) → E → Type 0
      Outcome k f = ((l : ℕ) × HasDestination goal next l f k) ⊎ IsSettledAt Settles next k f

      there_after : (j k : ℕ) (f : E) → HasDestination goal old j f k → Outcome k f
      there_after j k f v = by (moving.there j k f v)
        where
          waited : (l : ℕ) → HasDestination goal now l f k → Dec (l ≡ i) → Dec (l ≡ d) → Outcome k f
          waited l u (yes s) other =
              let was_stored : now i ≡ Some f = ap now (sym s) ∙ u.stored in
              let first : now i ≡ Some e = w.stored in
              let same : e ≡ f = cc in
              let to : goal e ≡ Some d = w.to in
              let there : goal e ≡ Some k = ap goal same ∙ u.to in
              let place : d ≡ k = cc in
              inr (record { entry = at_d.entry; stored = ap next (sym place) ∙ at_d.stored; settled = subst (λ (x : E). Settles x at_d.entry) same at_d.settled })
          waited l u (no n) (yes s) =
              let differs : i ≢ d = λ t. n (s ∙ sym t) in
              inl (i, record { stored = at_i differs ∙ (ap now (sym s) ∙ u.stored); to = u.to })
          waited l u (no n) (no m) = inl (l, record { stored = elsewhere l n m ∙ u.stored; to = u.to })

          placed : IsSettledAt Settles now k f → Dec (k ≡ i) → Dec (k ≡ d) → Outcome k f
          placed s (yes t) other =
              let was_stored : now i ≡ Some s.entry = ap now (sym t) ∙ s.stored in
              let first : now i ≡ Some e = w.stored in
              let same : e ≡ s.entry = cc in
              let to : goal e ≡ Some d = w.to in
              let none : goal e ≡ None = ap goal same ∙ done f s.entry s.settled in
              absurd (cc)
          placed s (no n) (yes t) = absurd (moving.unsettled i d e s.entry w (ap now (sym t) ∙ s.stored) (done f s.entry s.settled))
          placed s (no n) (no m) = inr (record { entry = s.entry; stored = elsewhere k n m ∙ s.stored; settled = s.settled })

          by : ((l : ℕ) × HasDestination goal now l f k) ⊎ IsSettledAt Settles now k f → Outcome k f
          by (inl u) = waited u.0 u.1 (ℕ_discrete u.0 i) (ℕ_discrete u.0 d)
          by (inr s) = placed s (ℕ_discrete k i) (ℕ_discrete k d)

      abbrev Origin : ℕ → E → Type 0
      Origin j f = StillWaits goal old next j f ⊎ HasArrived goal Settles old j f

      back_after : (j : ℕ) (f : E) → next j ≡ Some f → Origin j f
      back_after j f s = by (ℕ_discrete j d) (ℕ_discrete j i)
        where
          moved : (m : ℕ) → ((k : ℕ) → HasDestination goal now m f k → HasDestination goal next j f k) → ((g : E) → Settles g f → m ≡ j)
              → StillWaits goal old now m f ⊎ HasArrived goal Settles old m f → Origin j f
          moved m carry same (inl o) = inl (record { from = o.from; to = o.to; waited = o.waited; waits = carry o.to o.waits })
          moved m carry same (inr o) = inr (record { from = o.from; entry = o.entry; waited = subst (HasDestination goal old o.from o.entry) (same o.entry o.settled) o.waited; settled = o.settled })

          own : StillWaits goal old now i e ⊎ HasArrived goal Settles old i e → j ≡ d → Settles e f → Origin j f
          own (inl o) here settled =
              let to : goal e ≡ Some d = w.to in
              let too : goal e ≡ Some o.to = o.waits.to in
              let place : o.to ≡ j = (let p : o.to ≡ d = cc in p ∙ sym here) in
              inr (record { from = o.from; entry = e; waited = subst (HasDestination goal old o.from e) place o.waited; settled = settled })
          own (inr o) here settled =
              let to : goal e ≡ Some d = w.to in
              let none : goal e ≡ None = done o.entry e o.settled in
              absurd (cc)

          by : Dec (j ≡ d) → Dec (j ≡ i) → Origin j f
          by (yes t) other =
              let here : next d ≡ Some f = ap next (sym t) ∙ s in
              let there : next d ≡ Some at_d.entry = at_d.stored in
              let same : at_d.entry ≡ f = cc in
              own (moving.back i e w.stored) t (subst (Settles e) same at_d.settled)
          by (no n) (yes t) =
              let differs : i ≢ d = λ r. n (t ∙ r) in
              let was_stored : now d ≡ Some f = sym (at_i differs) ∙ (ap next (sym t) ∙ s) in
              moved d (λ k v. record { stored = s; to = v.to }) (λ g r. absurd (moving.unsettled i d e f w was_stored (done g f r))) (moving.back d f was_stored)
          by (no n) (no m) = moved j (λ k v. record { stored = s; to = v.to }) (λ g r. refl) (moving.back j f (sym (elsewhere j m n) ∙ s))

      pub moving_continues : IsMoving goal Settles old next
      moving_continues = record { apart = apart_after; unsettled = unsettled_after; there = there_after; back = back_after }

  pub moving_ends : (old new : ℕ → Option E) → IsMoving goal Settles old new → ((i d : ℕ) (e : E) → HasDestination goal new i e d → ⊥) → HaveMoved goal Settles old new
  moving_ends old new moving none = record { there = λ i d e w. by_there i d e (moving.there i d e w); back = λ j e s. by_back j e (moving.back j e s) }
    where
      by_there : (i d : ℕ) (e : E) → ((j : ℕ) × HasDestination goal new j e d) ⊎ IsSettledAt Settles new d e → IsSettledAt Settles new d e
      by_there i d e (inl u) = absurd (none u.0 d e u.1)
      by_there i d e (inr s) = s

      by_back : (j : ℕ) (e : E) → StillWaits goal old new j e ⊎ HasArrived goal Settles old j e → HasArrived goal Settles old j e
      by_back j e (inl u) = absurd (none j u.to e u.waits)
      by_back j e (inr s) = s
