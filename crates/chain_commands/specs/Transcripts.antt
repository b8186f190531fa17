-- The responses to the whole input.
use Rattle.std.specs.Prelude.{◌≡◌, ℕ, List, [], ◌∷◌, ◌++◌, Option, Result, Ok, Err}
use Rattle.std.specs.Io.KnownBytes.{Consumes, Appends, IsAtEnd}
use Rattle.chain_commands.specs.declared.session.ToolError.{ToolError}
use Rattle.chain_commands.specs.declared.session.ToolError.TheVariants as errors
use Rattle.chain_commands.specs.Words.{lines_of, whole_lines}
use Rattle.chain_commands.specs.Commands.{line_of}
use Rattle.chain_commands.specs.Responses.{ToolArenas, RespondsToLine, LeavesStep}

-- The responses to lines, and the arenas after them.
abbrev pub Transcribes : ToolArenas → List (List ℕ) → List ℕ → ToolArenas → Type 0
Transcribes old [] text new = (text ≡ []) × (new ≡ old)
Transcribes old (line ∷ lines) text new = (mid : ToolArenas) × (first : List ℕ) × (rest : List ℕ) × RespondsToLine old (line_of line) first mid × Transcribes mid lines rest new × (text ≡ first ++ rest)

-- All is read, and exactly the responses to all lines are written.
pub record TranscribesAll (old new : ToolArenas) (left left_after held held_after : Option (List ℕ)) : Type 0 where
  pub read : List ℕ
  pub text : List ℕ
  pub reads : Consumes left left_after read
  pub ended : IsAtEnd left_after
  pub writes : Appends held held_after text
  pub responses : Transcribes old (lines_of read) text new

-- The reader fails: the responses to all whole lines read are written.
pub record StopsReading (old new : ToolArenas) (left left_after held held_after : Option (List ℕ)) : Type 0 where
  pub read : List ℕ
  pub text : List ℕ
  pub reads : Consumes left left_after read
  pub writes : Appends held held_after text
  pub responses : Transcribes old (whole_lines read) text new

-- The whole lines read, and the last one if the reader is at its end.
pub data AreComplete (read : List ℕ) (left_after : Option (List ℕ)) : List (List ℕ) → Type 0 where
  by_line_feed : AreComplete read left_after (whole_lines read)
  by_the_end : IsAtEnd left_after → AreComplete read left_after (lines_of read)

-- The responses to some first lines, the last one possibly in part.
pub data IsCutShort (old new : ToolArenas) : List (List ℕ) → List ℕ → Type 0 where
  between : (responded others : List (List ℕ)) (text : List ℕ) → Transcribes old responded text new → IsCutShort old new (responded ++ others) text
  within : (responded others : List (List ℕ)) (line : List ℕ) (mid : ToolArenas) (text front rest : List ℕ)
      → Transcribes old responded text mid → RespondsToLine mid (line_of line) (front ++ rest) new → IsCutShort old new (responded ++ line ∷ others) (text ++ front)

-- The writer fails: the arenas are as the lines executed so far leave them.
pub record StopsWriting (old new : ToolArenas) (left left_after held held_after : Option (List ℕ)) : Type 0 where
  pub read : List ℕ
  pub lines : List (List ℕ)
  pub text : List ℕ
  pub reads : Consumes left left_after read
  pub complete : AreComplete read left_after lines
  pub writes : Appends held held_after text
  pub responses : IsCutShort old new lines text

-- The responses to some first lines; the next line, if a call, may have taken effect.
pub data TranscribesSome (old new : ToolArenas) : List (List ℕ) → List ℕ → Type 0 where
  before : (responded others : List (List ℕ)) (text : List ℕ) → Transcribes old responded text new → TranscribesSome old new (responded ++ others) text
  after : (responded others : List (List ℕ)) (line : List ℕ) (mid : ToolArenas) (text : List ℕ)
      → Transcribes old responded text mid → LeavesStep mid (line_of line) new → TranscribesSome old new (responded ++ line ∷ others) text

-- An allocation fails: the responses to some first complete lines are written.
pub record StopsForMemory (old new : ToolArenas) (left left_after held held_after : Option (List ℕ)) : Type 0 where
  pub read : List ℕ
  pub lines : List (List ℕ)
  pub text : List ℕ
  pub reads : Consumes left left_after read
  pub complete : AreComplete read left_after lines
  pub writes : Appends held held_after text
  pub responses : TranscribesSome old new lines text

-- The end of a run, by its result.
abbrev pub Ends : {A : Type 0} → Result A ToolError → ToolArenas → ToolArenas → Option (List ℕ) → Option (List ℕ) → Option (List ℕ) → Option (List ℕ) → Type 0
Ends (Ok x) old new left left_after held held_after = TranscribesAll old new left left_after held held_after
Ends (Err errors.Read) old new left left_after held held_after = StopsReading old new left left_after held held_after
Ends (Err errors.Write) old new left left_after held held_after = StopsWriting old new left left_after held held_after
Ends (Err errors.Memory) old new left left_after held held_after = StopsForMemory old new left left_after held held_after
