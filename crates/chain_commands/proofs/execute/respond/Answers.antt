use Rattle.std.proofs.Common.{refl, inl, inr, sym, ap, subst, ◌∙◌, ℕ, List, [], ◌∷◌, ◌++◌, ◌≡◌, codes, if◌then◌else◌, is_ok, Result, Ok, Err, String, string_bytes, rules}
use Rattle.std.specs.declared.alloc.Global.{Global}
use Rattle.arena_pairs.specs.declared.calls.PairCall.TheVariants.{First, TransferToSecond}
use Rattle.chain_commands.specs.Responses.{ToolLinks, ToolArenas, RespondsToCommand, RespondsToLine, ExecutesLine, HasCapacityForText, pair_reply_text}
use Rattle.chain_commands.specs.declared.command.Command.{Command}
use Rattle.chain_commands.specs.declared.command.Command.TheVariants.{Change, Arrange, Transfer}
use Rattle.chain_commands.specs.declared.command.Line.{Line}
use Rattle.chain_commands.specs.declared.command.Line.TheVariants.{Bad, Good}
use Rattle.chain_commands.proofs.ResponseLemmas.{AllocatesFirst, same_arenas, line_fails, line_ends, other_ends}
use Rattle.chain_commands.proofs.execute.respond.Goals as goal
use Rattle.chain_commands.proofs.execute.respond.Goals.{in-Bad+in_ok-push_str-in-Bad, in-Good-Change+in_ok-make_call-in-Good-Change, in-Good-Arrange+in_ok-make_call-in-Good-Arrange, in-Good-Transfer+in_ok-transfer-in-Good-Transfer, in-Good-Show+in_ok-show-in-Good-Show, in-Good-Chain+in_ok-chain-in-Good-Chain, in-Good-Len+in_ok-push_count-in-Good-Len, in-Good-Moves+in_ok-moves-in-Good-Moves}

bad_ends : {T E : Type 0} (old new : ToolArenas) (line : Line) (words text : List ℕ) (r : Result T E) → Bad ≡ line → new ≡ old → words ≡ codes "bad line" → text ≡ (if is_ok r then words ++ 10 ∷ [] else words)
    → ExecutesLine r old line text new
bad_ends old new line words text (Ok x) is same bad written = record { ok = subst (λ l. RespondsToLine old l text new) is (written ∙ ap (λ b. b ++ 10 ∷ []) bad, same); err = tt }
bad_ends old new line words text (Err e) is same bad written = record { ok = tt; err = inl same }

joined : (old : ToolArenas) {command found : Command} {a b here beside : ToolLinks} {text there : String Global} → command ≡ found → a ≡ here → b ≡ beside → text ≡ there
    → RespondsToCommand old found (string_bytes there) (here, beside) → RespondsToCommand old command (string_bytes text) (a, b)
joined old {command} {found} {a} {b} {here} {beside} {text} {there} is first second written responds =
    subst (λ k. RespondsToCommand old k (string_bytes text) (a, b)) (sym is)
    (subst (λ (arenas : ToolArenas). RespondsToCommand old found (string_bytes text) arenas) (sym (same_arenas first second)) (subst (λ (t : String Global). RespondsToCommand old found (string_bytes t) (here, beside)) (sym written) responds))

not_first : {X : Type 0} (command found : Command) → command ≡ found → (AllocatesFirst found → ⊥) → AllocatesFirst command → X
not_first command found is none first = absurd (none (subst AllocatesFirst is first))

pub returns-in_err-make_call-in-Good-Change : goal.returns-in_err-make_call-in-Good-Change
returns-in_err-make_call-in-Good-Change g c =
    let made = c.make_call.ensures c.args.other.now in
    line_fails _ _ _ _ c.in-Good-Change.field-0 _ c.from_residual-in_err-make_call-in-Good-Change.result c.from_residual-in_err-make_call-in-Good-Change.ensures.1 (sym c.in-Good-Change.is ∙ c.in_ok-parse.ensures)
    (inr (Change c.in-Good-Change.call, First c.in-Good-Change.call, pair_reply_text made.0, ap Good c.in-Good-Change.field-0-is, refl, (made.0, made.1, refl)))

pub returns-in_err-make_call-in-Good-Arrange : goal.returns-in_err-make_call-in-Good-Arrange
returns-in_err-make_call-in-Good-Arrange g c =
    let made = c.make_call-in-Good-Arrange.ensures c.args.other.now in
    line_fails _ _ _ _ c.in-Good-Arrange.field-0 _ c.from_residual-in_err-make_call-in-Good-Arrange.result c.from_residual-in_err-make_call-in-Good-Arrange.ensures.1 (sym c.in-Good-Arrange.is ∙ c.in_ok-parse.ensures)
    (inr (Arrange c.in-Good-Arrange.order, First c.into_call.result, pair_reply_text made.0, ap Good c.in-Good-Arrange.field-0-is, (c.into_call.result, c.into_call.ensures, refl), (made.0, made.1, refl)))

pub returns-in_err-transfer-in-Good-Transfer : goal.returns-in_err-transfer-in-Good-Transfer
returns-in_err-transfer-in-Good-Transfer g c =
    let made = c.transfer.ensures in
    line_fails _ _ _ _ c.in-Good-Transfer.field-0 _ c.from_residual-in_err-transfer-in-Good-Transfer.result c.from_residual-in_err-transfer-in-Good-Transfer.ensures.1 (sym c.in-Good-Transfer.is ∙ c.in_ok-parse.ensures)
    (inr (Transfer c.in-Good-Transfer.p, TransferToSecond c.in-Good-Transfer.p, pair_reply_text made.0, ap Good c.in-Good-Transfer.field-0-is, refl, (made.0, made.1, refl)))

pub returns-in-Good-Other : goal.returns-in-Good-Other
returns-in-Good-Other g c =
    other_ends _ _ _ c.in-Good-Other.field-0 _ c.exchange.result (sym c.in-Good-Other.is ∙ c.in_ok-parse.ensures) c.in-Good-Other.field-0-is c.exchange.ensures.ok c.exchange.ensures.err

pub returns : goal.returns
returns g c = elim c.match-branch-2.branch [
  | in-Bad+in_ok-push_str-in-Bad w ↦
      bad_ends _ _ _ _ _ c.push_str-2.result (sym w.in-Bad.is ∙ c.in_ok-parse.ensures) (same_arenas w.arena-is w.other-is) (ap string_bytes w.text-is ∙ w.in_ok-push_str-in-Bad.ensures.bytes ∙ ap (λ b. b ++ codes "bad line") c.clear.ensures.bytes) c.push_str-2.ensures.bytes
  | in-Good-Change+in_ok-make_call-in-Good-Change w ↦
      line_ends _ _ _ w.in-Good-Change.field-0 _ _ c.push_str-2.result (sym w.in-Good-Change.is ∙ c.in_ok-parse.ensures)
      (joined _ w.in-Good-Change.field-0-is w.arena-is w.other-is w.text-is (w.in_ok-make_call-in-Good-Change.ensures c.args.other.now))
      c.push_str-2.ensures.bytes (not_first _ _ w.in-Good-Change.field-0-is (λ none. none))
  | in-Good-Arrange+in_ok-make_call-in-Good-Arrange w ↦
      line_ends _ _ _ w.in-Good-Arrange.field-0 _ _ c.push_str-2.result (sym w.in-Good-Arrange.is ∙ c.in_ok-parse.ensures)
      (joined _ w.in-Good-Arrange.field-0-is w.arena-is w.other-is w.text-is (w.into_call.result, w.into_call.ensures, w.in_ok-make_call-in-Good-Arrange.ensures c.args.other.now))
      c.push_str-2.ensures.bytes (not_first _ _ w.in-Good-Arrange.field-0-is (λ none. none))
  | in-Good-Transfer+in_ok-transfer-in-Good-Transfer w ↦
      line_ends _ _ _ w.in-Good-Transfer.field-0 _ _ c.push_str-2.result (sym w.in-Good-Transfer.is ∙ c.in_ok-parse.ensures)
      (joined _ w.in-Good-Transfer.field-0-is w.arena-is w.other-is w.text-is w.in_ok-transfer-in-Good-Transfer.ensures)
      c.push_str-2.ensures.bytes (not_first _ _ w.in-Good-Transfer.field-0-is (λ none. none))
  | in-Good-Show+in_ok-show-in-Good-Show w ↦
      line_ends _ _ _ w.in-Good-Show.field-0 _ _ c.push_str-2.result (sym w.in-Good-Show.is ∙ c.in_ok-parse.ensures)
      (joined _ w.in-Good-Show.field-0-is w.arena-is w.other-is w.text-is (w.in_ok-show-in-Good-Show.ensures, refl))
      c.push_str-2.ensures.bytes (not_first _ _ w.in-Good-Show.field-0-is (λ none. none))
  | in-Good-Chain+in_ok-chain-in-Good-Chain w ↦
      line_ends _ _ _ w.in-Good-Chain.field-0 _ _ c.push_str-2.result (sym w.in-Good-Chain.is ∙ c.in_ok-parse.ensures)
      (joined _ w.in-Good-Chain.field-0-is w.arena-is w.other-is w.text-is (w.in_ok-chain-in-Good-Chain.ensures, refl))
      c.push_str-2.ensures.bytes (not_first _ _ w.in-Good-Chain.field-0-is (λ none. none))
  | in-Good-Len+in_ok-push_count-in-Good-Len w ↦
      line_ends _ _ _ w.in-Good-Len.field-0 _ _ c.push_str-2.result (sym w.in-Good-Len.is ∙ c.in_ok-parse.ensures)
      (joined _ w.in-Good-Len.field-0-is w.arena-is w.other-is w.text-is (search (rules, w.in_ok-push_count-in-Good-Len.ensures, c.clear.ensures.bytes, w.len.ensures.count), refl))
      c.push_str-2.ensures.bytes (not_first _ _ w.in-Good-Len.field-0-is (λ none. none))
  | in-Good-Moves+in_ok-moves-in-Good-Moves w ↦
      line_ends _ _ _ w.in-Good-Moves.field-0 _ _ c.push_str-2.result (sym w.in-Good-Moves.is ∙ c.in_ok-parse.ensures)
      (joined _ w.in-Good-Moves.field-0-is w.arena-is w.other-is w.text-is (w.in_ok-moves-in-Good-Moves.ensures.ok, refl))
      c.push_str-2.ensures.bytes (λ first. let fits = subst (λ t. HasCapacityForText t (codes "\n")) (sym w.text-is) w.in_ok-moves-in-Good-Moves.ensures.capacity in search (rules, c.push_str-2.ensures.succeeds, fits))
]
