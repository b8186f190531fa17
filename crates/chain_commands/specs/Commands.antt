-- Commands, as parsed from lines.
use Rattle.std.specs.Prelude.{◌≡◌, ℕ, nat_lt, Bool, true, false, if◌then◌else◌, List, [], ◌∷◌, length, codes, bytes_eq, Option, Some, None, option_and_then}
use Rattle.std.specs.Option.{option_map, option_or, option_zip}
use Rattle.arena_ptr.specs.declared.index.inx32.Inx32.{Inx32}
use Rattle.arena_ptr.specs.declared.tool_ptr.ToolPtr.{ToolPtr}
use Rattle.arena_ptr.specs.declared.generation.gen32.Gen32.{Gen32}
use Rattle.chain_arena.specs.declared.calls.Call.{Call}
use Rattle.chain_arena.specs.declared.calls.Call.TheVariants.{Insert, InsertWithin, Connect, BreakPrev, BreakNext, ExchangeNext, ReverseChain, MoveAfter, SpliceAfter, ArrangeChain, Remove, RemoveInx, Invalidate, DrainChain, Clear, Compress, CompressCanonical, Reserve, SetGeneration, IncGeneration}
use Rattle.chain_laws.specs.declared.insert_kind.InsertKind.{InsertKind}
use Rattle.chain_laws.specs.declared.insert_kind.InsertKind.TheVariants as kinds
use Rattle.arena_pairs.specs.declared.calls.PairCall.{PairCall}
use Rattle.chain_commands.specs.declared.command.Command.{Command}
use Rattle.chain_commands.specs.declared.command.Command.TheVariants.{Change, Arrange, Show, Chain, Len, Moves, Transfer, Other}
use Rattle.chain_commands.specs.declared.command.Line.{Line}
use Rattle.chain_commands.specs.declared.command.Line.TheVariants as lines
use Rattle.chain_commands.specs.Words.{words_of, number_of, index_word, generation_of, pointer_of, without_return}

abbrev pub Kind : Type 0
Kind = InsertKind ToolPtr Inx32

abbrev pub LinkCall : Type 0
LinkCall = Call ToolPtr ℕ Inx32 Gen32 ℕ

abbrev pub ArenaCall : Type 0
ArenaCall = PairCall ToolPtr ℕ Inx32 Gen32 ℕ

abbrev pub one_word : List (List ℕ) → Option (List ℕ)
one_word [] = None
one_word (word ∷ []) = Some word
one_word (word ∷ next ∷ words) = None

abbrev pub one_number : List (List ℕ) → Option ℕ
one_number words = option_and_then number_of (one_word words)

abbrev pub one_pointer : List (List ℕ) → Option ToolPtr
one_pointer words = option_and_then pointer_of (one_word words)

abbrev pub two_pointers : List (List ℕ) → Option (ToolPtr × ToolPtr)
two_pointers [] = None
two_pointers (word ∷ words) = option_zip (pointer_of word) (one_pointer words)

abbrev pub three_pointers : List (List ℕ) → Option (ToolPtr × (ToolPtr × ToolPtr))
three_pointers [] = None
three_pointers (word ∷ words) = option_zip (pointer_of word) (two_pointers words)

-- The pointers of words, if each word is one.
abbrev pub pointers_of : List (List ℕ) → Option (List ToolPtr)
pointers_of [] = Some []
pointers_of (word ∷ words) = option_map (λ p. p.0 ∷ p.1) (option_zip (pointer_of word) (pointers_of words))

-- One or more pointers.
abbrev pub order_of : List (List ℕ) → Option (List ToolPtr)
order_of [] = None
order_of (word ∷ words) = pointers_of (word ∷ words)

-- The call arranges the links in this order; the capacity of its `Vec` is open.
abbrev pub IsArrangement : List ToolPtr → LinkCall → Type 0
IsArrangement order (ArrangeChain links) = links.items ≡ order
IsArrangement order call = ⊥

abbrev pub pointer_and_number : List (List ℕ) → Option (ToolPtr × ℕ)
pointer_and_number [] = None
pointer_and_number (word ∷ words) = option_zip (pointer_of word) (one_number words)

abbrev pub no_arguments : List (List ℕ) → Option Unit
no_arguments [] = Some tt
no_arguments (word ∷ words) = None

-- Whether the counter is reset.
abbrev pub reset_of : List (List ℕ) → Option Bool
reset_of words = option_and_then (λ word. if bytes_eq word (codes "reset") then Some true else (if bytes_eq word (codes "keep") then Some false else None)) (one_word words)

-- By pointers if there are any, or else by indexes.
abbrev pub by_either : {P I A : Type 0} → (P → A) → (I → A) → Option P → Option I → Option A
by_either by_pointers by_indexes pointers indexes = option_or (option_map by_pointers pointers) (option_map by_indexes indexes)

-- A removal by pointer or index.
abbrev pub removal : List (List ℕ) → Option LinkCall
removal words = option_and_then (λ word. by_either Remove RemoveInx (pointer_of word) (index_word word)) (one_word words)

abbrev pub kind_alone : List ℕ → Option Kind
kind_alone name =
    if bytes_eq name (codes "alone") then Some kinds.Disconnected
    else (if bytes_eq name (codes "ring") then Some kinds.SingleLinkCyclic
    else None)

abbrev pub kind_beside : List ℕ → List ℕ → Option Kind
kind_beside name word =
    let p = pointer_of word in
    let i = index_word word in
    if bytes_eq name (codes "end") then by_either kinds.ChainEnd kinds.ChainEndInx p i
    else (if bytes_eq name (codes "start") then by_either kinds.ChainStart kinds.ChainStartInx p i
    else (if bytes_eq name (codes "after") then by_either kinds.NextTo kinds.NextToInx p i
    else (if bytes_eq name (codes "before") then by_either kinds.PrevTo kinds.PrevToInx p i
    else None)))

-- The kinds between two neighbors, both by pointer or both by index.
abbrev pub kind_between : List ℕ → List ℕ → List ℕ → Option Kind
kind_between name first second =
    let p = option_zip (pointer_of first) (pointer_of second) in
    let i = option_zip (index_word first) (index_word second) in
    if bytes_eq name (codes "between") then by_either (λ x. kinds.AtInterlink x.0 x.1) (λ x. kinds.AtInterlinkInx x.0 x.1) p i
    else (if bytes_eq name (codes "bridge") then by_either (λ x. kinds.Bridge x.0 x.1) (λ x. kinds.BridgeInx x.0 x.1) p i
    else None)

-- A kind, its neighbors, and the value.
abbrev pub insertion : List (List ℕ) → Option (Kind × ℕ)
insertion (name ∷ value ∷ []) = option_zip (kind_alone name) (number_of value)
insertion (name ∷ x ∷ value ∷ []) = option_zip (kind_beside name x) (number_of value)
insertion (name ∷ x ∷ y ∷ value ∷ []) = option_zip (kind_between name x y) (number_of value)
insertion words = None

-- A command that is no call on one arena.
abbrev pub remaining_command : List ℕ → List (List ℕ) → Option Command
remaining_command name arguments =
    if bytes_eq name (codes "show") then option_map Show (one_pointer arguments)
    else (if bytes_eq name (codes "chain") then option_map Chain (one_pointer arguments)
    else (if bytes_eq name (codes "len") then option_map (λ none. Len) (no_arguments arguments)
    else (if bytes_eq name (codes "moves") then option_map Moves (reset_of arguments)
    else (if bytes_eq name (codes "transfer") then option_map Transfer (one_pointer arguments)
    else (if bytes_eq name (codes "other") then option_map (λ none. Other) (no_arguments arguments)
    else None)))))

-- Any command but `arrange`.
abbrev pub short_command : List ℕ → List (List ℕ) → Option Command
short_command name arguments =
    if bytes_eq name (codes "add") then option_map (λ a. Change (Insert a.0 a.1)) (insertion arguments)
    else (if bytes_eq name (codes "addwithin") then option_map (λ a. Change (InsertWithin a.0 a.1)) (insertion arguments)
    else (if bytes_eq name (codes "connect") then option_map (λ p. Change (Connect p.0 p.1)) (two_pointers arguments)
    else (if bytes_eq name (codes "breakprev") then option_map (λ p. Change (BreakPrev p)) (one_pointer arguments)
    else (if bytes_eq name (codes "breaknext") then option_map (λ p. Change (BreakNext p)) (one_pointer arguments)
    else (if bytes_eq name (codes "exchange") then option_map (λ p. Change (ExchangeNext p.0 p.1)) (two_pointers arguments)
    else (if bytes_eq name (codes "reverse") then option_map (λ p. Change (ReverseChain p)) (one_pointer arguments)
    else (if bytes_eq name (codes "moveafter") then option_map (λ p. Change (MoveAfter p.0 p.1)) (two_pointers arguments)
    else (if bytes_eq name (codes "spliceafter") then option_map (λ p. Change (SpliceAfter p.0 p.1.0 p.1.1)) (three_pointers arguments)
    else (if bytes_eq name (codes "remove") then option_map Change (removal arguments)
    else (if bytes_eq name (codes "invalidate") then option_map (λ p. Change (Invalidate p)) (one_pointer arguments)
    else (if bytes_eq name (codes "drain") then option_map (λ a. Change (DrainChain a.0 a.1)) (pointer_and_number arguments)
    else (if bytes_eq name (codes "clear") then option_map (λ none. Change Clear) (no_arguments arguments)
    else (if bytes_eq name (codes "compress") then option_map (λ reset. Change (Compress reset)) (reset_of arguments)
    else (if bytes_eq name (codes "canonical") then option_map (λ reset. Change (CompressCanonical reset)) (reset_of arguments)
    else (if bytes_eq name (codes "reserve") then option_map (λ n. Change (Reserve n)) (one_number arguments)
    else (if bytes_eq name (codes "setgen") then option_map (λ g. Change (SetGeneration g)) (option_and_then generation_of (one_number arguments))
    else (if bytes_eq name (codes "incgen") then option_map (λ none. Change IncGeneration) (no_arguments arguments)
    else remaining_command name arguments)))))))))))))))))

abbrev pub command_of : List ℕ → List (List ℕ) → Option Command
command_of name arguments = if bytes_eq name (codes "arrange") then option_map Arrange (order_of arguments) else short_command name arguments

abbrev pub line_with : Option Command → Line
line_with None = lines.Bad
line_with (Some command) = lines.Good command

abbrev pub line_of_words : List (List ℕ) → Line
line_of_words [] = lines.Blank
line_of_words (name ∷ arguments) = line_with (command_of name arguments)

-- A parsed line; one of more than 200 bytes is bad.
abbrev pub line_of : List ℕ → Line
line_of line = if nat_lt 200 (length line) then lines.Bad else line_of_words (words_of (without_return line))
