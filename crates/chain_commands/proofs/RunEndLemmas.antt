-- How a run ends.
use Rattle.std.proofs.Common.{◌≡◌, ℕ, ◌⊎◌, List, [], ◌∷◌, ◌++◌, take, Option, Result, Ok, Err, refl, sym, ap, ◌∙◌, subst, append-nil, inl, inr}
use Rattle.std.specs.Io.KnownBytes.{Consumes, Keeps, IsAtEnd}
use Rattle.std.proofs.KnownBytes.{Appends-trans, Appends-kept, Appends-nil, Consumes-trans, Consumes-kept, Consumes-nil}
use Rattle.chain_commands.specs.declared.session.ToolError.{ToolError}
use Rattle.chain_commands.specs.declared.session.ToolError.TheVariants as errors
use Rattle.chain_commands.specs.Words.{all_but_last, lines_of, whole_lines}
use Rattle.chain_commands.specs.Commands.{line_of}
use Rattle.chain_commands.specs.Responses.{ToolArenas, LeavesStep}
use Rattle.chain_commands.specs.Transcripts.{Transcribes, by_line_feed, by_the_end, IsCutShort, between, within, TranscribesSome, before, after, Ends}
use Rattle.chain_commands.specs.Progress.{TranscribesOne, Progress, HasProgressed}
use Rattle.chain_commands.proofs.LineSplitLemmas.{all_but_last-append}
use Rattle.chain_commands.proofs.ProgressLemmas.{Transcribes-more}

pub record HasRead (old new : ToolArenas) (kept : List ℕ) (left left_after held held_after : Option (List ℕ)) : Type 0 where
  pub read : List ℕ
  pub reads : Consumes left left_after read
  pub so_far : Progress old read new kept held held_after

pub HasRead-nothing : (links : ToolArenas) (kept : List ℕ) (left held : Option (List ℕ)) → kept ≡ [] → HasRead links links kept left left held held
HasRead-nothing links kept left held none = record {
  read = [];
  reads = Consumes-nil left;
  so_far = record { lines = []; rest = []; text = []; cut = refl; keeps = none; responses = (refl, refl); writes = Appends-nil held };
}

module _ (old now : ToolArenas) (kept : List ℕ) (left left_now held held_now : Option (List ℕ)) (has : HasRead old now kept left left_now held held_now) where
  pub HasRead-flushed : (held_after : Option (List ℕ)) → Keeps held_now held_after → HasRead old now kept left left_now held held_after
  HasRead-flushed held_after keeps = record {
    read = has.read;
    reads = has.reads;
    so_far = record {
      lines = has.so_far.lines;
      rest = has.so_far.rest;
      text = has.so_far.text;
      cut = has.so_far.cut;
      keeps = has.so_far.keeps;
      responses = has.so_far.responses;
      writes = Appends-kept held held_now held_after _ has.so_far.writes keeps;
    };
  }

  pub HasRead-fed : {A : Type 0} (x : A) (new : ToolArenas) (kept_after piece : List ℕ) (left_after held_after : Option (List ℕ)) → Consumes left_now left_after piece
      → HasProgressed (Ok x) old (has.read ++ piece) new kept_after held held_after → HasRead old new kept_after left left_after held held_after
  HasRead-fed x new kept_after piece left_after held_after reads so_far = record {
    read = has.read ++ piece;
    reads = Consumes-trans left left_now left_after _ _ has.reads reads;
    so_far = so_far;
  }

  pub Ends-fed : (A B : Type 0) (error : ToolError) (r : Result B ToolError) (new : ToolArenas) (kept_after piece : List ℕ) (left_after held_after : Option (List ℕ)) → Consumes left_now left_after piece
      → HasProgressed {A = A} (Err error) old (has.read ++ piece) new kept_after held held_after → r ≡ Err error → Ends r old new left left_after held held_after
  Ends-fed A B error r new kept_after piece left_after held_after reads is_error is = subst (λ q. Ends q old new left left_after held held_after) (sym is) (by_error error is_error)
    where
      all : Consumes left left_after (has.read ++ piece)
      all = Consumes-trans left left_now left_after _ _ has.reads reads

      by_error : (error : ToolError) → HasProgressed {A = A} (Err error) old (has.read ++ piece) new kept_after held held_after → Ends {A = B} (Err error) old new left left_after held held_after
      by_error errors.Read is_error = absurd is_error
      by_error errors.Write is_error =
          record { read = has.read ++ piece; lines = whole_lines (has.read ++ piece); text = is_error.0; reads = all; complete = by_line_feed; writes = is_error.2; responses = is_error.1 }
      by_error errors.Memory is_error =
          record { read = has.read ++ piece; lines = whole_lines (has.read ++ piece); text = is_error.0; reads = all; complete = by_line_feed; writes = is_error.2; responses = is_error.1 }

  whole : whole_lines has.read ≡ has.so_far.lines
  whole = ap all_but_last has.so_far.cut ∙ all_but_last-append has.so_far.lines has.so_far.rest

  pub Ends-unread : (B : Type 0) (r : Result B ToolError) (left_after : Option (List ℕ)) → Keeps left_now left_after → r ≡ Err errors.Read → Ends r old now left left_after held held_now
  Ends-unread B r left_after keeps is = subst (λ q. Ends q old now left left_after held held_now) (sym is) (record {
    read = has.read;
    text = has.so_far.text;
    reads = Consumes-kept left left_now left_after _ has.reads keeps;
    writes = has.so_far.writes;
    responses = subst (λ l. Transcribes old l has.so_far.text now) (sym whole) has.so_far.responses;
  })

  pub Ends-unflushed : (B : Type 0) (r : Result B ToolError) (held_after : Option (List ℕ)) → Keeps held_now held_after → r ≡ Err errors.Write → Ends r old now left left_now held held_after
  Ends-unflushed B r held_after keeps is = subst (λ q. Ends q old now left left_now held held_after) (sym is) (record {
    read = has.read;
    lines = whole_lines has.read;
    text = has.so_far.text;
    reads = has.reads;
    complete = by_line_feed;
    writes = Appends-kept held held_now held_after _ has.so_far.writes keeps;
    responses = subst (λ l. IsCutShort old now l has.so_far.text) (append-nil has.so_far.lines ∙ sym whole) (between has.so_far.lines [] has.so_far.text has.so_far.responses);
  })

  pub Ends-finished : (B : Type 0) (r : Result B ToolError) (new : ToolArenas) (left_after held_after : Option (List ℕ)) → Consumes left_now left_after [] → IsAtEnd left_after
      → ((rest : List ℕ) → kept ≡ take 201 rest → TranscribesOne r now new (rest ++ []) held_now held_after) → Ends r old new left left_after held held_after
  Ends-finished B r new left_after held_after reads end responded =
      by_result r (subst (λ l. TranscribesOne r now new l held_now held_after) (append-nil has.so_far.rest) (responded has.so_far.rest has.so_far.keeps))
    where
      all : Consumes left left_after has.read
      all = subst (Consumes left left_after) (append-nil has.read) (Consumes-trans left left_now left_after _ _ has.reads reads)

      left_unchanged : (new ≡ now) ⊎ LeavesStep now (line_of has.so_far.rest) new → TranscribesSome old new (has.so_far.lines ++ has.so_far.rest ∷ []) has.so_far.text
      left_unchanged (inl stays) = before has.so_far.lines (has.so_far.rest ∷ []) has.so_far.text (subst (λ m. Transcribes old has.so_far.lines has.so_far.text m) (sym stays) has.so_far.responses)
      left_unchanged (inr step) = after has.so_far.lines [] has.so_far.rest now has.so_far.text has.so_far.responses step

      by_result : (r : Result B ToolError) → TranscribesOne r now new has.so_far.rest held_now held_after → Ends r old new left left_after held held_after
      by_result (Ok x) responded = record {
        read = has.read;
        text = has.so_far.text ++ responded.0;
        reads = all;
        ended = end;
        writes = Appends-trans held held_now held_after _ _ has.so_far.writes responded.2;
        responses = subst (λ l. Transcribes old l (has.so_far.text ++ responded.0) new) (sym has.so_far.cut)
            (Transcribes-more old now new has.so_far.lines has.so_far.rest has.so_far.text responded.0 has.so_far.responses responded.1);
      }
      by_result (Err errors.Read) responded = absurd responded
      by_result (Err errors.Write) responded = record {
        read = has.read;
        lines = lines_of has.read;
        text = has.so_far.text ++ responded.0;
        reads = all;
        complete = by_the_end end;
        writes = Appends-trans held held_now held_after _ _ has.so_far.writes responded.3;
        responses = subst (λ l. IsCutShort old new l (has.so_far.text ++ responded.0)) (sym has.so_far.cut)
            (within has.so_far.lines [] has.so_far.rest now has.so_far.text responded.0 responded.1 has.so_far.responses responded.2);
      }
      by_result (Err errors.Memory) responded = record {
        read = has.read;
        lines = lines_of has.read;
        text = has.so_far.text;
        reads = all;
        complete = by_the_end end;
        writes = Appends-kept held held_now held_after _ has.so_far.writes responded.0;
        responses = subst (λ l. TranscribesSome old new l has.so_far.text) (sym has.so_far.cut) (left_unchanged responded.1);
      }

pub Ends-no_capacity : (B : Type 0) (r : Result B ToolError) (error : ToolError) (links : ToolArenas) (left held : Option (List ℕ)) → error ≡ errors.Memory → r ≡ Err error → Ends r links links left left held held
Ends-no_capacity B r error links left held memory is = subst (λ q. Ends q links links left left held held) (sym (is ∙ ap Err memory)) (record {
  read = [];
  lines = [];
  text = [];
  reads = Consumes-nil left;
  complete = by_line_feed;
  writes = Appends-nil held;
  responses = before [] [] [] (refl, refl);
})
