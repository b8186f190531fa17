-- Ghost members of `ChainArenaTrait`, for the rows of loans.
use Rattle.chain_laws.specs.Chains.{LinkMap}
use Rattle.chain_laws.specs.Walks.{Walker}
use Rattle.chain_laws.specs.declared.insert_kind.InsertKind.{InsertKind}
use Rattle.chain_traits.specs.declared.chain_traits.ChainArenaTrait.{Ghosts}

abbrev pub chain_members : {A P T C D I G W : Type 0} → (A → LinkMap) → (C → Walker) → (A → InsertKind P I → T → A → P → Type 0) → (connects : A → P → P → A → Type 0) → (breaks_prev breaks_next : A → P → A → Type 0)
    → (exchanges : A → P → P → A → Type 0) → (reverses : A → P → A → Type 0) → (moves : A → P → P → A → Type 0) → (splices : A → P → P → P → A → Type 0) → (A → A → Type 0) → Ghosts A P T C D I G W
chain_members interlinks walker inserts connects breaks_prev breaks_next exchanges reverses moves splices compresses_canonically = record {
  interlinks = interlinks;
  walker = walker;
  inserts = inserts;
  connects = connects;
  breaks_prev = breaks_prev;
  breaks_next = breaks_next;
  exchanges = exchanges;
  reverses = reverses;
  moves = moves;
  splices = splices;
  compresses_canonically = compresses_canonically;
}
