-- Responses to lines.
use Rattle.std.specs.Prelude.{◌≡◌, ℕ, ◌+◌, ◌≤◌, ◌⊎◌, List, ◌∷◌, [], ◌++◌, map, length, codes, decimal, String, string_bytes, Bool, true, false, Option, None, Some, Result, Ok, Err, OnOk, OnErr}
use Rattle.std.specs.List.{join_with_byte, concat}
use Rattle.std.specs.String.{string_capacity}
use Rattle.std.specs.declared.alloc.Global.{Global}
use Rattle.arena_ptr.specs.Generations.{number_of_gen32, two32, after32, is_greatest32}
use Rattle.arena_ptr.specs.Indexes.{number_of_inx32}
use Rattle.arena_core.specs.PackedOptions.{zero_is_none}
use Rattle.arena_ptr.specs.ToolPtr.{key_of}
use Rattle.arena_core.specs.declared.errors.ChainInsertionError.{ChainInsertionError}
use Rattle.arena_core.specs.declared.errors.ChainInsertionError.TheVariants as failed
use Rattle.arena_core.specs.declared.errors.ReallocationError.{ReallocationError}
use Rattle.arena_core.specs.declared.errors.ReallocationError.TheVariants as refused
use Rattle.arena_ptr.specs.declared.generation.gen32.Gen32.{Gen32}
use Rattle.arena_ptr.specs.declared.index.inx32.Inx32.{Inx32}
use Rattle.arena_core.specs.declared.invalidation.InvalidationOption.{InvalidationOption}
use Rattle.arena_core.specs.declared.invalidation.InvalidationOption.TheVariants as option
use Rattle.arena_core.specs.declared.invalidation.InvalidationResult.{InvalidationResult}
use Rattle.arena_core.specs.declared.invalidation.InvalidationResult.TheVariants as result
use Rattle.arena_ptr.specs.declared.tool_ptr.ToolPtr.{ToolPtr}
use Rattle.arena_traits.specs.Arena.{Arena, IsValid, entry_count}
use Rattle.chain_links.specs.ChainArena as chain
use Rattle.chain_links.specs.ChainArena.{LinkView, link_map, value_view, entry, IsWalkOf}
use Rattle.chain_compaction.specs.Layouts.{AreAllMoves}
use Rattle.arena_core.specs.PointerKinds.{PointerKind}
use Rattle.chain_arena.specs.Steps.{Step}
use Rattle.chain_arena.specs.declared.calls.Call.TheVariants.{CompressCanonical}
use Rattle.chain_arena.specs.declared.calls.Reply.{Reply}
use Rattle.chain_arena.specs.declared.calls.Reply.TheVariants.{Inserted, Done, Removed, RemovedInx, Renewed, Drained, Counted, Reserved, Set}
use Rattle.arena_pairs.specs.PairSteps.{LinksPair, PairStep}
use Rattle.arena_pairs.specs.declared.calls.PairCall.TheVariants.{First, TransferToSecond}
use Rattle.arena_pairs.specs.declared.calls.PairReply.{PairReply}
use Rattle.arena_pairs.specs.declared.calls.PairReply.TheVariants.{Replied, Transferred}
use Rattle.chain_commands.specs.Commands.{LinkCall, ArenaCall, IsArrangement}
use Rattle.chain_commands.specs.declared.command.Command.{Command}
use Rattle.chain_commands.specs.declared.command.Command.TheVariants.{Change, Arrange, Show, Chain, Len, Moves, Transfer, Other}
use Rattle.chain_commands.specs.declared.command.Line.{Line}
use Rattle.chain_commands.specs.declared.command.Line.TheVariants.{Blank, Bad, Good}

-- Links of numbers, with 32-bit indexes and generations.
abbrev pub ToolLinks : Type 0
ToolLinks = Arena Gen32 (LinkView ℕ)

-- The arena of the commands, and the other one.
abbrev pub ToolArenas : Type 0
ToolArenas = LinksPair Gen32 ℕ

-- An index, a dot and a generation.
abbrev pub pointer_text : ℕ × Gen32 → List ℕ
pointer_text p = decimal p.0 ++ codes "." ++ decimal (number_of_gen32 p.1)

-- A pointer, or a dash.
abbrev pub neighbor_text : Option (ℕ × Gen32) → List ℕ
neighbor_text None = codes "-"
neighbor_text (Some p) = pointer_text p

-- The neighbors and the value.
abbrev pub show_text : Option (ℕ × Gen32) → Option (ℕ × Gen32) → ℕ → List ℕ
show_text prev next value = codes "prev " ++ neighbor_text prev ++ codes " next " ++ neighbor_text next ++ codes " value " ++ decimal value

-- A pointer and a value.
abbrev pub passed_text : ℕ × Gen32 → ℕ → List ℕ
passed_text p value = pointer_text p ++ codes ":" ++ decimal value

abbrev pub walked_text : ℕ × (Gen32 × LinkView ℕ) → List ℕ
walked_text e = passed_text (e.0, e.1.0) e.1.1.value

-- The links, separated by spaces.
abbrev pub walk_text : List (ℕ × (Gen32 × LinkView ℕ)) → List ℕ
walk_text links = join_with_byte 32 (map walked_text links)

abbrev pub IsValidIn : ToolLinks → ℕ × Gen32 → Type 0
IsValidIn a p = IsValid (entry a) p

-- The link at a pointer: its neighbors' pointers and its value.
abbrev pub IsLinkIn : ToolLinks → ℕ × Gen32 → Option (ℕ × Gen32) → Option (ℕ × Gen32) → ℕ → Type 0
IsLinkIn a p prev next value = chain.IsLinkAt (entry a) (link_map a) p prev next value

abbrev pub at_text : ToolPtr → List ℕ
at_text p = codes "at " ++ pointer_text (key_of p)

abbrev pub value_text : ℕ → List ℕ
value_text value = codes "value " ++ decimal value

abbrev pub invalidation_text : {A : Type 0} → (A → List ℕ) → InvalidationResult A → List ℕ
invalidation_text text (result.Success x) = text x
invalidation_text text (result.GenerationOverflow x) = text x ++ codes " overflow"
invalidation_text text result.InvalidPtr = codes "none"

abbrev pub counted_text : InvalidationOption Unit → List ℕ
counted_text (option.Success done) = codes "ok"
counted_text (option.GenerationOverflow done) = codes "ok overflow"

abbrev pub refusal_text : ChainInsertionError → List ℕ
refusal_text failed.FailedLinkRequirement = codes "refused link"
refusal_text failed.NotWithinCapacity = codes "refused capacity"
refusal_text failed.AllocError = codes "refused memory"
refusal_text failed.BeyondMaxCapacity = codes "refused limit"

abbrev pub growth_refusal_text : ReallocationError → List ℕ
growth_refusal_text refused.AllocError = codes "refused memory"
growth_refusal_text refused.BeyondMaxCapacity = codes "refused limit"

abbrev pub ArenaReply : Type 0
ArenaReply = PairReply ToolPtr ℕ Inx32 Gen32 ℕ

abbrev pub reply_text : Reply ToolPtr ℕ Inx32 Gen32 ℕ → List ℕ
reply_text (Inserted (Ok p)) = at_text p
reply_text (Inserted (Err error)) = refusal_text error
reply_text (Done true) = codes "ok"
reply_text (Done false) = codes "none"
reply_text (Removed returned) = invalidation_text (λ link. value_text link.t) returned
reply_text (RemovedInx returned) = invalidation_text (λ e. value_text e.1.t) returned
reply_text (Renewed returned) = invalidation_text at_text returned
reply_text (Drained (Some count)) = codes "count " ++ decimal count
reply_text (Drained None) = codes "none"
reply_text (Counted returned) = counted_text returned
reply_text (Reserved (Ok done)) = codes "ok"
reply_text (Reserved (Err error)) = growth_refusal_text error
reply_text Set = codes "ok"

abbrev pub pair_reply_text : ArenaReply → List ℕ
pair_reply_text (Replied reply) = reply_text reply
pair_reply_text (Transferred (Ok (Some p))) = at_text p
pair_reply_text (Transferred (Ok None)) = codes "none"
pair_reply_text (Transferred (Err error)) = growth_refusal_text error

abbrev pub greatest_index : ℕ
greatest_index = 0xffff_ffff

abbrev pub tool_pointers : PointerKind ToolPtr Inx32 Gen32 ℕ
tool_pointers = record {
  key = key_of;
  number = number_of_inx32;
  packed = zero_is_none;
  greatest = greatest_index;
  first = two32;
  following = after32;
  wraps = is_greatest32;
}

abbrev pub RespondsToCall : ToolArenas → ArenaCall → List ℕ → ToolArenas → Type 0
RespondsToCall old call text new = (reply : ArenaReply) × PairStep tool_pointers old call reply new × (text ≡ pair_reply_text reply)

abbrev pub RespondsToOther : ToolArenas → List ℕ → ToolArenas → Type 0
RespondsToOther old text new = (text ≡ codes "ok") × (new ≡ (old.1, old.0))

pub data RespondsToShow (old : ToolLinks) (p : ℕ × Gen32) (text : List ℕ) : Type 0 where
  link : (prev next : Option (ℕ × Gen32)) (value : ℕ) → IsLinkIn old p prev next value → text ≡ show_text prev next value → RespondsToShow old p text
  no_link : (IsValidIn old p → ⊥) → text ≡ codes "none" → RespondsToShow old p text

pub data RespondsToChain (old : ToolLinks) (p : ℕ × Gen32) (text : List ℕ) : Type 0 where
  walk : (links : List (ℕ × (Gen32 × LinkView ℕ))) → IsValidIn old p → IsWalkOf old p.0 links → text ≡ walk_text links → RespondsToChain old p text
  no_walk : (IsValidIn old p → ⊥) → text ≡ codes "none" → RespondsToChain old p text

-- The old and the new pointer.
abbrev pub move_text : ToolPtr × ToolPtr → List ℕ
move_text m = codes " " ++ pointer_text (key_of m.0) ++ codes ">" ++ pointer_text (key_of m.1)

-- Any overflow of the counter.
abbrev pub overflow_text : InvalidationOption Unit → List ℕ
overflow_text (option.Success done) = []
overflow_text (option.GenerationOverflow done) = codes " overflow"

-- The number of links, their moves, and any overflow.
abbrev pub moves_text : List (ToolPtr × ToolPtr) → InvalidationOption Unit → List ℕ
moves_text moves known = codes "moved " ++ decimal (length moves) ++ concat (map move_text moves) ++ overflow_text known

abbrev pub HasCapacityForText : String Global → List ℕ → Type 0
HasCapacityForText text more = length (string_bytes text) + length more ≤ string_capacity text

-- The bytes are appended, and the capacity has not shrunk.
abbrev pub AppendsBytes : (old new : String Global) → List ℕ → Type 0
AppendsBytes old new more = record {
  bytes : string_bytes new ≡ string_bytes old ++ more;
  capacity : string_capacity old ≤ string_capacity new;
}

-- A canonical compression, with the moves by increasing new index.
pub record RespondsToMoves (old : ToolLinks) (reset : Bool) (text : List ℕ) (new : ToolLinks) : Type 0 where
  pub known : InvalidationOption Unit
  pub moves : List (ToolPtr × ToolPtr)
  pub step : Step tool_pointers old (CompressCanonical reset) (Counted known) new
  pub all : AreAllMoves key_of (value_view old) (link_map old) new.counter moves
  pub text_is : text ≡ moves_text moves known

abbrev pub RespondsToCommand : ToolArenas → Command → List ℕ → ToolArenas → Type 0
RespondsToCommand old (Change call) text new = RespondsToCall old (First call) text new
RespondsToCommand old (Arrange order) text new = (call : LinkCall) × IsArrangement order call × RespondsToCall old (First call) text new
RespondsToCommand old (Transfer p) text new = RespondsToCall old (TransferToSecond p) text new
RespondsToCommand old (Show p) text new = RespondsToShow old.0 (key_of p) text × (new ≡ old)
RespondsToCommand old (Chain p) text new = RespondsToChain old.0 (key_of p) text × (new ≡ old)
RespondsToCommand old (Moves reset) text new = RespondsToMoves old.0 reset text new.0 × (new.1 ≡ old.1)
RespondsToCommand old Len text new = (text ≡ codes "count " ++ decimal (entry_count old.0)) × (new ≡ old)
RespondsToCommand old Other text new = RespondsToOther old text new

-- The response to a line, with a line feed, and the arenas after it.
abbrev pub RespondsToLine : ToolArenas → Line → List ℕ → ToolArenas → Type 0
RespondsToLine old Blank text new = (text ≡ []) × (new ≡ old)
RespondsToLine old Bad text new = (text ≡ codes "bad line" ++ 10 ∷ []) × (new ≡ old)
RespondsToLine old (Good command) text new = (words : List ℕ) × (text ≡ words ++ 10 ∷ []) × RespondsToCommand old command words new

abbrev pub MakesCall : Command → ArenaCall → Type 0
MakesCall (Change call) made = made ≡ First call
MakesCall (Arrange order) made = (call : LinkCall) × IsArrangement order call × (made ≡ First call)
MakesCall (Transfer p) made = made ≡ TransferToSecond p
MakesCall command made = ⊥

-- The line is a call that has taken effect.
abbrev pub LeavesStep : ToolArenas → Line → ToolArenas → Type 0
LeavesStep old line new = (command : Command) × (call : ArenaCall) × (text : List ℕ) × (line ≡ Good command) × MakesCall command call × RespondsToCall old call text new

-- `moves F`: the response, with capacity for a line feed, or nothing changes.
abbrev pub ExecutesMoves : {A E : Type 0} → Result A E → ToolLinks → Bool → String Global → ToolLinks → Type 0
ExecutesMoves returned old reset text new = record {
  ok : OnOk returned (RespondsToMoves old reset (string_bytes text) new);
  capacity : OnOk returned (HasCapacityForText text (codes "\n"));
  err : OnErr returned (new ≡ old);
}

-- A call is made, and its response is in the text unless an allocation failed.
abbrev pub ExecutesCall : {A E : Type 0} → Result A E → ToolArenas → ArenaCall → List ℕ → ToolArenas → Type 0
ExecutesCall returned old call text new = (reply : ArenaReply) × PairStep tool_pointers old call reply new × OnOk returned (text ≡ pair_reply_text reply)

-- `other`: the response and a line feed, or nothing changes.
abbrev pub ExecutesOther : {A E : Type 0} → Result A E → ToolArenas → List ℕ → ToolArenas → Type 0
ExecutesOther returned old text new = record {
  ok : OnOk returned ((text ≡ codes "ok\n") × (new ≡ (old.1, old.0)));
  err : OnErr returned (new ≡ old);
}

-- The response is in the text; if an allocation failed, only a call may have taken effect.
abbrev pub ExecutesLine : {A E : Type 0} → Result A E → ToolArenas → Line → List ℕ → ToolArenas → Type 0
ExecutesLine returned old line text new = record {
  ok : OnOk returned (RespondsToLine old line text new);
  err : OnErr returned ((new ≡ old) ⊎ LeavesStep old line new);
}
