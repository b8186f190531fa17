use Rattle.std.specs.Prelude.{◌≡◌, ℕ, List, [], ◌∷◌, ◌++◌, Some, Result, Ok, Err}
use Rattle.arena_traits.specs.Arena.{Arena}
use Rattle.arena_traits.specs.Entries.{with_replacement}
use Rattle.arena_traits.specs.Compressions.{values_in}
use Rattle.chain_links.specs.ChainArena.{LinkView, new_link, with_each, with_value_at, link_map, value_view, entry}

abbrev pub link_without_value : {T : Type 0} → LinkView T → LinkView (Unit {0})
link_without_value link = new_link tt link.prev link.next

-- `recasts` relates old value, new value and result.
module _ {T I : Type 0} (recasts : T → T → Result (Unit {0}) I → Type 0) where
  -- Each value is recast.
  abbrev pub AreAllRecast : List T → List T → Type 0
  AreAllRecast [] [] = Unit {0}
  AreAllRecast (t ∷ ts) (u ∷ us) = recasts t u (Ok tt) × AreAllRecast ts us
  AreAllRecast [] (u ∷ us) = ⊥
  AreAllRecast (t ∷ ts) [] = ⊥

  -- Values are recast up to one that fails; those after it stay.
  pub record AreRecastUpTo (ts us : List T) (refusal : I) : Type 0 where
    pub before : List T
    pub recast : List T
    pub was : T
    pub is : T
    pub after : List T
    pub old : ts ≡ before ++ was ∷ after
    pub new : us ≡ recast ++ is ∷ after
    pub all : AreAllRecast before recast
    pub refuses : recasts was is (Err refusal)

  -- All values are recast, or one fails and gives the result.
  abbrev pub AreRecast : List T → List T → Result (Unit {0}) I → Type 0
  AreRecast ts us (Ok _) = AreAllRecast ts us
  AreRecast ts us (Err refusal) = AreRecastUpTo ts us refusal

  module _ {Gen : Type 0} where
    -- The values are recast in ascending index order; all else stays.
    pub record IsRecast (old new : Arena Gen (LinkView T)) (returned : Result (Unit {0}) I) : Type 0 where
      pub rest : with_each link_without_value new ≡ with_each link_without_value old
      pub links : link_map new ≡ link_map old
      pub values : AreRecast (values_in (value_view old).entries) (values_in (value_view new).entries) returned

    -- One value is recast; all else stays.
    pub record IsRecastAt (old new : Arena Gen (LinkView T)) (p : ℕ × Gen) (returned : Result (Unit {0}) I) : Type 0 where
      pub was : T
      pub is : T
      pub was_stored : entry old p.0 ≡ Some (p.1, was)
      pub state : new ≡ with_value_at old p.0 is
      pub links : link_map new ≡ link_map old
      pub entries : (value_view new).entries ≡ with_replacement p.0 (λ e. (e.0, is)) (value_view old).entries
      pub recast : recasts was is returned
