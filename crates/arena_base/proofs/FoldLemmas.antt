-- Sequences of steps under maps of the state or the items.
use Rattle.std.proofs.Common.{List, [], ◌∷◌, map, ap}
use Rattle.std.specs.List.{FoldsTo}

pub folds_viewed : {V F X : Type 0} (see : V → F) (step : V → X → V → Type 0) (viewed_step : F → X → F → Type 0)
    → ((s : V) (x : X) (t : V) → step s x t → viewed_step (see s) x (see t))
    → (xs : List X) (f last : V) → FoldsTo step f xs last → FoldsTo viewed_step (see f) xs (see last)
folds_viewed see step viewed_step each [] f last folds = ap see folds
folds_viewed see step viewed_step each (x ∷ xs) f last folds =
    (see folds.0, each f x folds.0 folds.1, folds_viewed see step viewed_step each xs folds.0 last folds.2)

pub folds_mapped : {F X Y : Type 0} (lookup : X → Y) (step : F → Y → F → Type 0) (xs : List X) (f last : F)
    → FoldsTo (λ s x t. step s (lookup x) t) f xs last → FoldsTo step f (map lookup xs) last
folds_mapped lookup step [] f last folds = folds
folds_mapped lookup step (x ∷ xs) f last folds = (folds.0, folds.1, folds_mapped lookup step xs folds.0 last folds.2)
