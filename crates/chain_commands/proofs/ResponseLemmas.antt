-- A completed step belongs to some response, even if the allocation of the response failed.
use Rattle.std.proofs.Common.{◌≡◌, ℕ, ◌⊎◌, List, [], ◌∷◌, ◌++◌, Result, Ok, Err, OnOk, OnErr, IsOk, IsErrAnd, codes, is_ok, if◌then◌else◌, refl, sym, ap, ap₂, ◌∙◌, inl, inr, subst, Bool, cond, append_assoc, append-nil, true, false}
use Rattle.std.specs.Prelude.{⊤}
use Rattle.std.proofs.lemmas.Bool.{false≢true}
use Rattle.arena_ptr.specs.declared.generation.gen32.Gen32.{Gen32}
use Rattle.chain_links.specs.ChainArena.{LinkView}
use Rattle.chain_commands.specs.declared.command.Command.{Command}
use Rattle.chain_commands.specs.declared.command.Command.TheVariants.{Change, Arrange, Show, Chain, Len, Moves, Transfer, Other}
use Rattle.chain_commands.specs.declared.command.Line.{Line}
use Rattle.chain_commands.specs.declared.command.Line.TheVariants.{Good}
use Rattle.arena_pairs.specs.declared.calls.PairCall.TheVariants.{First, TransferToSecond}
use Rattle.chain_commands.specs.Responses.{ToolLinks, ToolArenas, RespondsToCommand, RespondsToLine, LeavesStep, ExecutesLine, walked_text, walk_text}

pub same_arenas : {a b c d : ToolLinks} → a ≡ c → b ≡ d → let p : ToolArenas = (a, b) in let q : ToolArenas = (c, d) in p ≡ q
same_arenas first second = ap₂ (λ (x : ToolLinks) (y : ToolLinks). let p : ToolArenas = (x, y) in p) first second

-- The commands that allocate all memory, also for the line feed, before they change an arena.
abbrev pub AllocatesFirst : Command → Type 0
AllocatesFirst (Moves reset) = ⊤
AllocatesFirst Other = ⊤
AllocatesFirst command = ⊥

module _ {T E : Type 0} where
  pub line_fails : (Q : E → Type 0) (old new : ToolArenas) (line : Line) (command : Command) (text : List ℕ) (r : Result T E) → IsErrAnd r Q → Good command ≡ line
      → (new ≡ old) ⊎ LeavesStep old (Good command) new → ExecutesLine r old line text new
  line_fails Q old new line command text (Ok x) fails is steps = absurd fails
  line_fails Q old new line command text (Err e) fails is steps = record { ok = tt; err = subst (λ l. (new ≡ old) ⊎ LeavesStep old l new) is steps }

  unended_err : (old new : ToolArenas) (line : Line) (command : Command) (words : List ℕ) (r : Result T E) → Good command ≡ line → RespondsToCommand old command words new
      → (AllocatesFirst command → IsOk r) → OnErr r ((new ≡ old) ⊎ LeavesStep old line new)
  unended_err old new line command words (Ok x) is gives ends = tt
  unended_err old new line (Change call) words (Err e) is gives ends = inr (Change call, First call, words, sym is, refl, gives)
  unended_err old new line (Arrange order) words (Err e) is gives ends = inr (Arrange order, First gives.0, words, sym is, (gives.0, gives.1, refl), gives.2)
  unended_err old new line (Transfer p) words (Err e) is gives ends = inr (Transfer p, TransferToSecond p, words, sym is, refl, gives)
  unended_err old new line (Show p) words (Err e) is gives ends = inl gives.1
  unended_err old new line (Chain p) words (Err e) is gives ends = inl gives.1
  unended_err old new line Len words (Err e) is gives ends = inl gives.1
  unended_err old new line (Moves reset) words (Err e) is gives ends = absurd (let no = ends tt in cc)
  unended_err old new line Other words (Err e) is gives ends = absurd (let no = ends tt in cc)

  pub line_ends : (old new : ToolArenas) (line : Line) (command : Command) (words text : List ℕ) (r : Result T E) → Good command ≡ line → RespondsToCommand old command words new
      → text ≡ (if is_ok r then words ++ 10 ∷ [] else words) → (AllocatesFirst command → IsOk r) → ExecutesLine r old line text new
  line_ends old new line command words text (Ok x) is gives written ends = record { ok = subst (λ l. RespondsToLine old l text new) is (words, written, gives); err = tt }
  line_ends old new line command words text (Err e) is gives written ends = record { ok = tt; err = unended_err old new line command words (Err e) is gives ends }

  pub other_ends : (old new : ToolArenas) (line : Line) (command : Command) (text : List ℕ) (r : Result T E) → Good command ≡ line → command ≡ Other → OnOk r ((text ≡ codes "ok\n") × (new ≡ (old.1, old.0)))
      → OnErr r (new ≡ old) → ExecutesLine r old line text new
  other_ends old new line command text (Ok x) is named done same =
      record { ok = subst (λ l. RespondsToLine old l text new) (sym (ap Good named) ∙ is) (codes "ok", done.0, (refl, done.1)); err = tt }
  other_ends old new line command text (Err e) is named done same = record { ok = tt; err = inl same }

abbrev pub Passed : Type 0
Passed = ℕ × (Gen32 × LinkView ℕ)

abbrev pub none_passed : List Passed → Bool
none_passed [] = true
none_passed (e ∷ links) = false

pub record IsWalked (before text : List ℕ) (first : Bool) (all left : List Passed) : Type 0 where
  pub passed : List Passed
  pub walk : all ≡ passed ++ left
  pub written : text ≡ before ++ walk_text passed
  pub start : first ≡ none_passed passed

pub walk_text-more : (passed : List Passed) (e : Passed) → walk_text (passed ++ e ∷ []) ≡ cond (none_passed passed) (walked_text e) (walk_text passed ++ 32 ∷ walked_text e)
walk_text-more [] e = refl
walk_text-more (d ∷ []) e = refl
walk_text-more (d ∷ f ∷ passed) e =
    ap (λ l. walked_text d ++ 32 ∷ l) (walk_text-more (f ∷ passed) e) ∙ sym (append_assoc (walked_text d) (32 ∷ walk_text (f ∷ passed)) (32 ∷ walked_text e))

module _ (before text joined more : List ℕ) (first : Bool) (all left after : List Passed) (e : Passed)
    (walked : IsWalked before text first all left) (next : left ≡ e ∷ after) (link : more ≡ joined ++ walked_text e) where
  passes : all ≡ (walked.passed ++ e ∷ []) ++ after
  passes = walked.walk ∙ ap (λ l. walked.passed ++ l) next ∙ sym (append_assoc walked.passed (e ∷ []) after)

  some_passed : false ≡ none_passed (walked.passed ++ e ∷ [])
  some_passed = by_list walked.passed
    where
      by_list : (passed : List Passed) → false ≡ none_passed (passed ++ e ∷ [])
      by_list [] = refl
      by_list (d ∷ passed) = refl

  pub IsWalked-first : first ≡ true → joined ≡ text → IsWalked before more false all after
  IsWalked-first none_yet same = record {
    passed = walked.passed ++ e ∷ [];
    walk = passes;
    written = by_list walked.passed (sym none_yet ∙ walked.start) walked.written;
    start = some_passed;
  }
    where
      by_list : (passed : List Passed) → true ≡ none_passed passed → text ≡ before ++ walk_text passed → more ≡ before ++ walk_text (passed ++ e ∷ [])
      by_list [] none written = link ∙ ap (λ l. l ++ walked_text e) (same ∙ written ∙ append-nil before)
      by_list (d ∷ passed) none written = absurd (false≢true (sym none))

  pub IsWalked-next : first ≡ false → joined ≡ text ++ 32 ∷ [] → IsWalked before more false all after
  IsWalked-next later spaced = record {
    passed = walked.passed ++ e ∷ [];
    walk = passes;
    written = by_list walked.passed (sym later ∙ walked.start) walked.written;
    start = some_passed;
  }
    where
      by_list : (passed : List Passed) → false ≡ none_passed passed → text ≡ before ++ walk_text passed → more ≡ before ++ walk_text (passed ++ e ∷ [])
      by_list [] some written = absurd (false≢true some)
      by_list (d ∷ passed) some written =
          link ∙ ap (λ l. l ++ walked_text e) (spaced ∙ ap (λ l. l ++ 32 ∷ []) written)
          ∙ append_assoc (before ++ walk_text (d ∷ passed)) (32 ∷ []) (walked_text e) ∙ append_assoc before (walk_text (d ∷ passed)) (32 ∷ walked_text e)
          ∙ ap (λ l. before ++ l) (sym (walk_text-more (d ∷ passed) e))
