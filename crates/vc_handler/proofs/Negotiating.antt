-- The host's versions, as they are heard.
use Rattle.std.proofs.Common.{◌≡◌, ℕ, ◌-◌, ◌≤◌, List, [], ◌∷◌, Option, Some, None, Result, sym, subst, arith}
use Rattle.std.specs.Prelude.{IfSome, option_map}
use Rattle.page_words.specs.declared.item.Item.{Item}
use Rattle.page_words.specs.declared.item.Item.TheVariants.{Store, Exit, Load, Msr}
use Rattle.page_words.specs.Told.{Told, HasRoom, Makes}
use Rattle.page_words.specs.Dialogue.{Follows, Reads, listen, over}
use Rattle.event_table.specs.declared.end.Reason.{Reason}
use Rattle.vc_handler.specs.Version.{negotiated, negotiating}

pub heard : (word : ℕ) (r : Result ℕ Reason) (t u : Told) → Makes t (Msr word ∷ []) u → r ≡ negotiated word → Reads negotiating r t u
unfolding listen
heard word r t u makes is = record { items = Msr word ∷ []; makes = makes; goes = sym is }

spare_less : (o : Option ℕ) → IfSome o (λ s. 2 ≤ s) → IfSome (option_map (λ n. n - 1) o) (λ s. 1 ≤ s)
spare_less None room = tt
spare_less (Some n) room = omega (arith, room)

room_after : (items : List Item) (r : Result ℕ Reason) (t u : Told) → Makes t items u → Follows (listen negotiating (λ x. over x)) items r → HasRoom t 2 → HasRoom u 1
unfolding listen
room_after [] r t u makes goes room = absurd goes
room_after (Msr v ∷ []) r t u makes goes room = subst (λ (w : Told). HasRoom w 1) (sym makes.leaves) (spare_less t.spare room)
room_after (Msr v ∷ x ∷ xs) r t u makes goes room = absurd goes
room_after (Load n v ∷ xs) r t u makes goes room = absurd goes
room_after (Store n v ∷ xs) r t u makes goes room = absurd goes
room_after (Exit v ∷ xs) r t u makes goes room = absurd goes

-- once they are heard, there is room for a termination
pub left_room : (r : Result ℕ Reason) (t u : Told) → Reads negotiating r t u → HasRoom t 2 → HasRoom u 1
left_room r t u reads room = room_after reads.items r t u reads.makes reads.goes room
