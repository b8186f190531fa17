-- The progress of a run.
use Rattle.std.specs.Prelude.{◌≡◌, ℕ, ◌⊎◌, List, [], ◌∷◌, ◌++◌, take, Option, Result, Ok, Err, OnOk, OnErr, IfErr}
use Rattle.std.specs.Io.KnownBytes.{Appends, Keeps}
use Rattle.chain_commands.specs.declared.session.ToolError.{ToolError}
use Rattle.chain_commands.specs.declared.session.ToolError.TheVariants as errors
use Rattle.chain_commands.specs.Words.{lines_of, whole_lines}
use Rattle.chain_commands.specs.Commands.{line_of}
use Rattle.chain_commands.specs.Responses.{ToolArenas, RespondsToLine, LeavesStep}
use Rattle.chain_commands.specs.Transcripts.{Transcribes, IsCutShort, TranscribesSome}

-- A text is written, or a first part if the writer fails.
abbrev pub WritesText : {A : Type 0} → Result A ToolError → (held held_after : Option (List ℕ)) → List ℕ → Type 0
WritesText returned held held_after text = record {
  ok : OnOk returned (Appends held held_after text);
  err : OnErr returned ((n : ℕ) × Appends held held_after (take n text));
  error : IfErr returned (λ e. e ≡ errors.Write);
}

-- At most 201 bytes of an unfinished line are kept.
abbrev pub KeepsMore : {A : Type 0} → Result A ToolError → (kept kept_after more : List ℕ) → Type 0
KeepsMore returned kept kept_after more = record {
  ok : OnOk returned ((rest : List ℕ) → kept ≡ take 201 rest → kept_after ≡ take 201 (rest ++ more));
  error : IfErr returned (λ e. e ≡ errors.Memory);
}

-- A line is executed; after an allocation failure nothing is written, and only a call may have
-- taken effect.
abbrev pub TranscribesOne : {A : Type 0} → Result A ToolError → ToolArenas → ToolArenas → List ℕ → Option (List ℕ) → Option (List ℕ) → Type 0
TranscribesOne (Ok x) old new line held held_after = (text : List ℕ) × RespondsToLine old (line_of line) text new × Appends held held_after text
TranscribesOne (Err errors.Read) old new line held held_after = ⊥
TranscribesOne (Err errors.Write) old new line held held_after = (front : List ℕ) × (rest : List ℕ) × RespondsToLine old (line_of line) (front ++ rest) new × Appends held held_after front
TranscribesOne (Err errors.Memory) old new line held held_after = Keeps held held_after × ((new ≡ old) ⊎ LeavesStep old (line_of line) new)

-- The line that was kept in part and ends with `front` is executed.
abbrev pub EndsLine : {A : Type 0} → Result A ToolError → ToolArenas → (kept front : List ℕ) → Option (List ℕ) → ToolArenas → List ℕ → Option (List ℕ) → Type 0
EndsLine returned old kept front held new kept_after held_after = record {
  responded : (rest : List ℕ) → kept ≡ take 201 rest → TranscribesOne returned old new (rest ++ front) held held_after;
  empty : OnOk returned (kept_after ≡ []);
}

-- Whole lines are executed; of the rest 201 bytes are kept, since a line over 200 is bad.
pub record Progress (old : ToolArenas) (read : List ℕ) (new : ToolArenas) (kept : List ℕ) (held held_after : Option (List ℕ)) : Type 0 where
  pub lines : List (List ℕ)
  pub rest : List ℕ
  pub text : List ℕ
  pub cut : lines_of read ≡ lines ++ rest ∷ []
  pub keeps : kept ≡ take 201 rest
  pub responses : Transcribes old lines text new
  pub writes : Appends held held_after text

-- The progress after more was read; at a fault only of whole lines.
abbrev pub HasProgressed : {A : Type 0} → Result A ToolError → ToolArenas → List ℕ → ToolArenas → List ℕ → Option (List ℕ) → Option (List ℕ) → Type 0
HasProgressed (Ok x) old read new kept held held_after = Progress old read new kept held held_after
HasProgressed (Err errors.Read) old read new kept held held_after = ⊥
HasProgressed (Err errors.Write) old read new kept held held_after = (text : List ℕ) × IsCutShort old new (whole_lines read) text × Appends held held_after text
HasProgressed (Err errors.Memory) old read new kept held held_after = (text : List ℕ) × TranscribesSome old new (whole_lines read) text × Appends held held_after text

-- The progress before a piece of input determines that after it.
abbrev pub ExtendsProgress : {A : Type 0} → Result A ToolError → List ℕ → ToolArenas → List ℕ → Option (List ℕ) → ToolArenas → List ℕ → Option (List ℕ) → Type 0
ExtendsProgress returned piece now kept held_now new kept_after held_after =
    (old : ToolArenas) (read : List ℕ) (held : Option (List ℕ)) → Progress old read now kept held held_now → HasProgressed returned old (read ++ piece) new kept_after held held_after
