-- The progress of a run by lines and parts of lines.
use Rattle.std.proofs.Common.{◌≡◌, ℕ, ◌⊎◌, List, [], ◌∷◌, ◌++◌, take, drop, length, Bool, true, ◌==◌, Option, Result, Ok, Err, OnOk, IfErr, IsErrAnd, arith, refl, sym, ap, ◌∙◌, subst, append_assoc, append-nil, inl, inr}
use Rattle.std.specs.Prelude.{All}
use Rattle.std.specs.Io.KnownBytes.{Appends, Keeps}
use Rattle.std.proofs.lemmas.Grind.{common_steps}
use Rattle.std.proofs.lemmas.List.{take-append-drop, nil_from_length}
use Rattle.std.proofs.KnownBytes.{Appends-trans, Appends-kept, Keeps-refl}
use Rattle.chain_commands.specs.declared.session.ToolError.{ToolError}
use Rattle.chain_commands.specs.declared.session.ToolError.TheVariants as errors
use Rattle.chain_commands.specs.Words.{lines_of, whole_lines, IsNot, EndsFirst}
use Rattle.chain_commands.specs.Commands.{line_of}
use Rattle.chain_commands.specs.Responses.{ToolArenas, RespondsToLine, LeavesStep}
use Rattle.chain_commands.specs.Transcripts.{Transcribes, IsCutShort, within, TranscribesSome, before, after}
use Rattle.chain_commands.specs.Progress.{WritesText, TranscribesOne, Progress, HasProgressed}
use Rattle.chain_commands.proofs.LineSplitLemmas.{line_of-take, lines_of-end, whole_lines-end, whole_lines-more, cut-more}

pub Transcribes-more : (old mid new : ToolArenas) (lines : List (List ℕ)) (line text more : List ℕ) → Transcribes old lines text mid → RespondsToLine mid (line_of line) more new
    → Transcribes old (lines ++ line ∷ []) (text ++ more) new
Transcribes-more old mid new [] line text more responses next =
    let first : RespondsToLine old (line_of line) more new = subst (λ m. RespondsToLine m (line_of line) more new) responses.1 next in
    (new, more, [], first, (refl, refl), ap (λ t. t ++ more) responses.0 ∙ sym (append-nil more))
Transcribes-more old mid new (first ∷ lines) line text more responses next = (
  responses.0,
  responses.1,
  responses.2 ++ more,
  responses.3,
  Transcribes-more responses.0 mid new lines line responses.2 more responses.4 next,
  ap (λ t. t ++ more) responses.5 ∙ append_assoc responses.1 responses.2 more,
)

pub kept_line_responds : (old new : ToolArenas) (kept rest text : List ℕ) → kept ≡ take 201 rest → RespondsToLine old (line_of kept) text new → RespondsToLine old (line_of rest) text new
kept_line_responds old new kept rest text keeps responses = subst (λ l. RespondsToLine old l text new) (ap line_of keeps ∙ line_of-take rest) responses

pub kept_line_steps : (old new : ToolArenas) (kept rest : List ℕ) → kept ≡ take 201 rest → LeavesStep old (line_of kept) new → LeavesStep old (line_of rest) new
kept_line_steps old new kept rest keeps step = subst (λ l. LeavesStep old l new) (ap line_of keeps ∙ line_of-take rest) step

module _ (old mid new : ToolArenas) (read kept : List ℕ) (held held_mid held_after : Option (List ℕ)) (so_far : Progress old read mid kept held held_mid) where
  ended : (more : List ℕ) → lines_of (read ++ 10 ∷ more) ≡ so_far.lines ++ so_far.rest ∷ lines_of more
  ended more = lines_of-end read more ∙ ap (λ l. l ++ lines_of more) so_far.cut ∙ append_assoc so_far.lines (so_far.rest ∷ []) (lines_of more)

  pub Progress-line : {A : Type 0} (x : A) → TranscribesOne (Ok x) mid new kept held_mid held_after → Progress old (read ++ 10 ∷ []) new [] held held_after
  Progress-line x responded = record {
    lines = so_far.lines ++ so_far.rest ∷ [];
    rest = [];
    text = so_far.text ++ responded.0;
    cut = ended [] ∙ sym (append_assoc so_far.lines (so_far.rest ∷ []) ([] ∷ []));
    keeps = refl;
    responses = Transcribes-more old mid new so_far.lines so_far.rest so_far.text responded.0 so_far.responses (kept_line_responds mid new kept so_far.rest responded.0 so_far.keeps responded.1);
    writes = Appends-trans held held_mid held_after _ _ so_far.writes responded.2;
  }

  whole : (more : List ℕ) → whole_lines (read ++ 10 ∷ more) ≡ so_far.lines ++ so_far.rest ∷ whole_lines more
  whole more = whole_lines-end read more so_far.lines so_far.rest so_far.cut

  left_unchanged : (more : List ℕ) → (new ≡ mid) ⊎ LeavesStep mid (line_of kept) new → TranscribesSome old new (so_far.lines ++ so_far.rest ∷ whole_lines more) so_far.text
  left_unchanged more (inl same) = before so_far.lines (so_far.rest ∷ whole_lines more) so_far.text (subst (λ m. Transcribes old so_far.lines so_far.text m) (sym same) so_far.responses)
  left_unchanged more (inr step) = after so_far.lines (whole_lines more) so_far.rest mid so_far.text so_far.responses (kept_line_steps mid new kept so_far.rest so_far.keeps step)

  pub HasProgressed-stopped : (A B : Type 0) (error : ToolError) (more kept_after : List ℕ) → TranscribesOne {A = A} (Err error) mid new kept held_mid held_after
      → HasProgressed {A = B} (Err error) old (read ++ 10 ∷ more) new kept_after held held_after
  HasProgressed-stopped A B errors.Read more kept_after stopped = stopped
  HasProgressed-stopped A B errors.Write more kept_after stopped = (
    so_far.text ++ stopped.0,
    subst (λ l. IsCutShort old new l (so_far.text ++ stopped.0)) (sym (whole more))
        (within so_far.lines (whole_lines more) so_far.rest mid so_far.text stopped.0 stopped.1 so_far.responses (kept_line_responds mid new kept so_far.rest (stopped.0 ++ stopped.1) so_far.keeps stopped.2)),
    Appends-trans held held_mid held_after _ _ so_far.writes stopped.3,
  )
  HasProgressed-stopped A B errors.Memory more kept_after stopped =
      (so_far.text, subst (λ l. TranscribesSome old new l so_far.text) (sym (whole more)) (left_unchanged more stopped.1), Appends-kept held held_mid held_after _ so_far.writes stopped.0)

pub Progress-stopped : (old new : ToolArenas) (read kept more : List ℕ) (held held_after : Option (List ℕ)) (so_far : Progress old read new kept held held_after)
    → TranscribesSome old new (whole_lines (read ++ more)) so_far.text
Progress-stopped old new read kept more held held_after so_far =
    let found = whole_lines-more more read so_far.lines so_far.rest so_far.cut in
    subst (λ l. TranscribesSome old new l so_far.text) (sym found.1) (before so_far.lines found.0 so_far.text so_far.responses)

pub Progress-front : (old new : ToolArenas) (read kept kept_after front : List ℕ) (held held_after : Option (List ℕ)) (so_far : Progress old read new kept held held_after) → All (IsNot 10) front
    → kept_after ≡ take 201 (so_far.rest ++ front) → Progress old (read ++ front) new kept_after held held_after
Progress-front old new read kept kept_after front held held_after so_far all keep = record {
  lines = so_far.lines;
  rest = so_far.rest ++ front;
  text = so_far.text;
  cut = cut-more front read so_far.lines so_far.rest all so_far.cut;
  keeps = keep;
  responses = so_far.responses;
  writes = so_far.writes;
}

pub responses-line : {A : Type 0} (r : Result A ToolError) (old new : ToolArenas) (executed line : List ℕ) (held held_after : Option (List ℕ)) → line_of executed ≡ line_of line → TranscribesOne r old new executed held held_after
    → TranscribesOne r old new line held held_after
responses-line (Ok x) old new executed line held held_after is responded = (responded.0, subst (λ l. RespondsToLine old l responded.0 new) is responded.1, responded.2)
responses-line (Err errors.Read) old new executed line held held_after is responded = responded
responses-line (Err errors.Write) old new executed line held held_after is responded = (responded.0, responded.1, subst (λ l. RespondsToLine old l (responded.0 ++ responded.1) new) is responded.2, responded.3)
responses-line (Err errors.Memory) old new executed line held held_after is responded = (responded.0, step responded.1)
  where
    step : (new ≡ old) ⊎ LeavesStep old (line_of executed) new → (new ≡ old) ⊎ LeavesStep old (line_of line) new
    step (inl same) = inl same
    step (inr leaves) = inr (subst (λ l. LeavesStep old l new) is leaves)

pub response-written : {A : Type 0} (r : Result A ToolError) (old new : ToolArenas) (line text bytes : List ℕ) (held held_after : Option (List ℕ)) → RespondsToLine old (line_of line) text new → bytes ≡ text
    → WritesText r held held_after bytes → TranscribesOne r old new line held held_after
response-written (Ok x) old new line text bytes held held_after responses is writes = (text, responses, subst (Appends held held_after) is writes.ok)
response-written (Err errors.Read) old new line text bytes held held_after responses is writes = let e = writes.error in cc
response-written (Err errors.Memory) old new line text bytes held held_after responses is writes = let e = writes.error in cc
response-written (Err errors.Write) old new line text bytes held held_after responses is writes = (
  take writes.err.0 text,
  drop writes.err.0 text,
  subst (λ t. RespondsToLine old (line_of line) t new) (sym (take-append-drop writes.err.0 text)) responses,
  subst (λ t. Appends held held_after (take writes.err.0 t)) is writes.err.1,
)

pub response-fails : {A : Type 0} (r : Result A ToolError) (old new : ToolArenas) (line : List ℕ) (held : Option (List ℕ)) → IsErrAnd r (λ e. e ≡ errors.Memory) → (new ≡ old) ⊎ LeavesStep old (line_of line) new
    → TranscribesOne r old new line held held
response-fails {A} (Err e) old new line held fails steps = subst (λ x. TranscribesOne {A = A} (Err x) old new line held held) (sym fails) (Keeps-refl held, steps)
response-fails (Ok x) old new line held fails steps = absurd fails

pub response-flushed : {A B : Type 0} (x : A) (r : Result B ToolError) (old new : ToolArenas) (line : List ℕ) (held held_mid held_after : Option (List ℕ)) → TranscribesOne (Ok x) old new line held held_mid
    → Keeps held_mid held_after → IfErr r (λ e. e ≡ errors.Write) → TranscribesOne r old new line held held_after
response-flushed x (Ok y) old new line held held_mid held_after responded keeps error = (responded.0, responded.1, Appends-kept held held_mid held_after _ responded.2 keeps)
response-flushed x (Err errors.Write) old new line held held_mid held_after responded keeps error = (
  responded.0,
  [],
  subst (λ t. RespondsToLine old (line_of line) t new) (sym (append-nil responded.0)) responded.1,
  Appends-kept held held_mid held_after _ responded.2 keeps,
)
response-flushed x (Err errors.Read) old new line held held_mid held_after responded keeps error = absurd (cc)
response-flushed x (Err errors.Memory) old new line held held_mid held_after responded keeps error = absurd (cc)

pub none_kept : (kept : List ℕ) (n : ℕ) (b : Bool) → length kept ≡ n → b ≡ (n == 0) → b ≡ true → kept ≡ []
none_kept kept n b long is empty = nil_from_length kept (grind (arith, common_steps))

pub line_in_place : (kept rest front whole : List ℕ) → kept ≡ [] → kept ≡ take 201 rest → whole ≡ front → line_of whole ≡ line_of (rest ++ front)
line_in_place kept [] front whole none is same = ap line_of same
line_in_place kept (c ∷ rest) front whole none is same = absurd (let e = sym none ∙ is in cc)

module _ (old now : ToolArenas) (read done left kept : List ℕ) (held held_now : Option (List ℕ)) (so_far : Progress old (read ++ done) now kept held held_now) where
  so_far_front : (front : List ℕ) → All (IsNot 10) front → Progress old ((read ++ done) ++ front) now (take 201 (so_far.rest ++ front)) held held_now
  so_far_front front all = Progress-front old now (read ++ done) kept (take 201 (so_far.rest ++ front)) front held held_now so_far all refl

  module _ (front back : List ℕ) (ends : EndsFirst 10 front left back) where
    pub feed-line : {A : Type 0} (new : ToolArenas) (kept_after : List ℕ) (held_new : Option (List ℕ)) (x : A)
        → ((rest : List ℕ) → kept ≡ take 201 rest → TranscribesOne (Ok x) now new (rest ++ front) held_now held_new) → kept_after ≡ []
        → Progress old (read ++ (done ++ (front ++ 10 ∷ []))) new kept_after held held_new
    feed-line new kept_after held_new x responded is_empty =
        let kept_responded = responses-line (Ok x) now new (so_far.rest ++ front) (take 201 (so_far.rest ++ front)) held_now held_new (sym (line_of-take (so_far.rest ++ front))) (responded so_far.rest so_far.keeps) in
        let here = Progress-line old now new ((read ++ done) ++ front) (take 201 (so_far.rest ++ front)) held held_now held_new (so_far_front front ends.first) x kept_responded in
        subst (λ k. Progress old (read ++ (done ++ (front ++ 10 ∷ []))) new k held held_new) (sym is_empty)
        (subst (λ l. Progress old l new [] held held_new) (append_assoc (read ++ done) front (10 ∷ []) ∙ append_assoc read done (front ++ 10 ∷ [])) here)

    pub feed-stopped : (A B : Type 0) (error : ToolError) (r : Result B ToolError) (piece : List ℕ) (new : ToolArenas) (kept_after : List ℕ) (held_new : Option (List ℕ)) → piece ≡ done ++ left
        → ((rest : List ℕ) → kept ≡ take 201 rest → TranscribesOne {A = A} (Err error) now new (rest ++ front) held_now held_new) → r ≡ Err error
        → HasProgressed r old (read ++ piece) new kept_after held held_new
    feed-stopped A B error r piece new kept_after held_new parts stopped is =
        let kept_stopped = responses-line {A = A} (Err error) now new (so_far.rest ++ front) (take 201 (so_far.rest ++ front)) held_now held_new (sym (line_of-take (so_far.rest ++ front))) (stopped so_far.rest so_far.keeps) in
        let here = HasProgressed-stopped old now new ((read ++ done) ++ front) (take 201 (so_far.rest ++ front)) held held_now held_new (so_far_front front ends.first) A B error back kept_after kept_stopped in
        let whole : ((read ++ done) ++ front) ++ 10 ∷ back ≡ read ++ piece = append_assoc (read ++ done) front (10 ∷ back) ∙ (append_assoc read done (front ++ 10 ∷ back)
        ∙ ap (λ l. read ++ l) (ap (λ l. done ++ l) (sym ends.parts) ∙ sym parts)) in
        subst (λ q. HasProgressed q old (read ++ piece) new kept_after held held_new) (sym is)
        (subst (λ l. HasProgressed {A = B} (Err error) old l new kept_after held held_new) whole here)

  pub feed-kept : {A : Type 0} (r : Result A ToolError) (piece kept_after : List ℕ) → piece ≡ done ++ left → All (IsNot 10) left
      → OnOk r ((rest : List ℕ) → kept ≡ take 201 rest → kept_after ≡ take 201 (rest ++ left)) → IfErr r (λ e. e ≡ errors.Memory) → HasProgressed r old (read ++ piece) now kept_after held held_now
  feed-kept (Ok x) piece kept_after parts all keeps error =
      subst (λ l. Progress old l now kept_after held held_now) (append_assoc read done left ∙ ap (λ l. read ++ l) (sym parts))
      (Progress-front old now (read ++ done) kept kept_after left held held_now so_far all (keeps so_far.rest so_far.keeps))
  feed-kept (Err errors.Memory) piece kept_after parts all keeps error =
      let whole : (read ++ done) ++ left ≡ read ++ piece = append_assoc read done left ∙ ap (λ l. read ++ l) (sym parts) in
      (so_far.text, subst (λ l. TranscribesSome old now (whole_lines l) so_far.text) whole (Progress-stopped old now (read ++ done) kept left held held_now so_far), so_far.writes)
  feed-kept (Err errors.Read) piece kept_after parts all keeps error = absurd (cc)
  feed-kept (Err errors.Write) piece kept_after parts all keeps error = absurd (cc)
