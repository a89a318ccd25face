-- What a serve makes of a legal host.
use Rattle.std.proofs.Common.{◌≡◌, ◌≢◌, ℕ, ◌+◌, ◌<◌, ◌^◌, List, [], ◌∷◌, ◌++◌, length, ap, sym, ◌∙◌, subst, ⊎_elim, arith, length-append, Some}
use Rattle.std.specs.Prelude.{option_map, IfSome}
use Rattle.std.proofs.lemmas.List.{append-nil}
use Rattle.page_words.specs.Told.{Kept}
use Rattle.event_table.specs.declared.event.Event.{Event}
use Rattle.event_table.specs.declared.turn.Entry.{Entry}
use Rattle.device_bus.specs.Devices.{opening}
use Rattle.device_bus.specs.History.{after_history}
use Rattle.device_bus.proofs.Histories.{after_history-append}
use Rattle.host_events.specs.Calls.{call_of}
use Rattle.host_events.specs.Served.{served, entries}
use Rattle.host_events.specs.Hosting.{Hosting, Leaves, after_serve}
use Rattle.host_events.proofs.Serving.{served_devices, entries_cases, none_page}
use Rattle.bus_lock.specs.Rule.{Legal}
use Rattle.bus_lock.specs.Serving.{Gains, GainsNone, entry_of}

-- where the count stays no entry was made, and else just one
no_entry : (i : ℕ) (page : Kept) (log : List Entry) → length (log ++ entries i page) ≡ length log → entries i page ≡ []
no_entry i page log same =
    ⊎_elim (λ (t : entries i page ≡ []). t)
    (λ (t : (e : Event) × (entries i page ≡ entry_of i e ∷ [])).
    let n = ap length t.1 in let l = length-append log (entries i page) in absurd (omega arith))
    (entries_cases i (call_of i page))

one_entry : (i : ℕ) (page : Kept) (log : List Entry) → length (log ++ entries i page) ≢ length log →
    (e : Event) × (entries i page ≡ entry_of i e ∷ [])
one_entry i page log other =
    ⊎_elim
    (λ (t : entries i page ≡ []).
    let n = ap length t in let l = length-append log (entries i page) in absurd (other (omega arith)))
    (λ (t : (e : Event) × (entries i page ≡ entry_of i e ∷ [])). t) (entries_cases i (call_of i page))

module _ {H : Type 0} (told : H → Hosting) (vcpus : ℕ) (input : List ℕ) where
  -- a host that tells the same is as legal
  pub same_legal : (host after : H) (log : List Entry) → told after ≡ told host → Legal told vcpus input host log →
      Legal told vcpus input after log
  same_legal host after log same legal = record {
    started = ap (λ (h : Hosting). h.vcpus) same ∙ legal.started;
    history = ap (λ (h : Hosting). h.history) same ∙ legal.history;
    devices = ap (λ (h : Hosting). h.devices) same ∙ legal.devices;
  }

  -- what a legal host counts is the history's length, which is below 2^63
  pub counts_log : (host : H) (log : List Entry) (n : ℕ) → Legal told vcpus input host log →
      IfSome (told host).history (λ es. n ≡ length es) → n ≡ length log
  counts_log host log n legal counts =
      subst (λ o. IfSome o (λ (es : List Entry). n ≡ length es)) legal.history counts

  pub few_entries : (host : H) (log : List Entry) → Legal told vcpus input host log →
      IfSome (told host).history (λ es. length es < 2 ^ 63) → length log < 2 ^ 63
  few_entries host log legal few = subst (λ o. IfSome o (λ (es : List Entry). length es < 2 ^ 63)) legal.history few

  module _ (host after : H) (log : List Entry) (i : ℕ) (page left : Kept) where
    serves_legal : Legal told vcpus input host log → told after ≡ after_serve i page (told host) →
        Legal told vcpus input after (log ++ entries i page)
    serves_legal legal serves = record {
      started = ap (λ (h : Hosting). h.vcpus) serves ∙ legal.started;
      history = ap (λ (h : Hosting). h.history) serves
          ∙ ap (λ o. option_map (λ es. es ++ entries i page) o) legal.history;
      devices = ap (λ (h : Hosting). h.devices) serves
          ∙ ap (λ o. option_map (λ d. (served i page d).devices) o) legal.devices
          ∙ ap Some (served_devices i page (after_history (opening vcpus input) log)
          ∙ sym (after_history-append (opening vcpus input) log (entries i page)));
    }

    leaves_page : Legal told vcpus input host log → Leaves i page left (told host) →
        left ≡ (served i page (after_history (opening vcpus input) log)).page
    leaves_page legal leaves = subst (λ o. IfSome o (λ d. left ≡ (served i page d).page)) legal.devices leaves

    -- where the host counts as much as before the page makes no entry, and else one
    pub gains_none : (n m : ℕ) → Legal told vcpus input host log → told after ≡ after_serve i page (told host) →
        Leaves i page left (told host) → IfSome (told host).history (λ es. n ≡ length es) →
        IfSome (told after).history (λ es. m ≡ length es) → m ≡ n → GainsNone told vcpus input log i page left after
    gains_none n m legal serves leaves before now same =
        let next = serves_legal legal serves in
        let a = counts_log host log n legal before in let b = counts_log after (log ++ entries i page) m next now in
        let none : entries i page ≡ [] = no_entry i page log (sym b ∙ (same ∙ a)) in record {
          is = none;
          leaves = λ d. leaves_page legal leaves ∙ none_page i page (after_history (opening vcpus input) log) d none;
          legal = subst (Legal told vcpus input after) (ap (λ l. log ++ l) none ∙ append-nil log) next;
        }

    pub gains : (n m : ℕ) → Legal told vcpus input host log → told after ≡ after_serve i page (told host) →
        Leaves i page left (told host) → IfSome (told host).history (λ es. n ≡ length es) →
        IfSome (told after).history (λ es. m ≡ length es) →
        IfSome (told after).history (λ es. length es < 2 ^ 63) → m ≢ n → Gains told vcpus input log i page left after
    gains n m legal serves leaves before now few other =
        let next = serves_legal legal serves in
        let a = counts_log host log n legal before in let b = counts_log after (log ++ entries i page) m next now in
        let one = one_entry i page log (λ e. other (b ∙ (e ∙ sym a))) in
        let small = few_entries after (log ++ entries i page) next few in
        let longer : length (log ++ entries i page) ≡ length log + 1 =
        ap (λ (l : List Entry). length (log ++ l)) one.1 ∙ length-append log (entry_of i one.0 ∷ []) in record {
          event = one.0;
          is = one.1;
          leaves = leaves_page legal leaves;
          legal = subst (Legal told vcpus input after) (ap (λ l. log ++ l) one.1) next;
          room = omega arith;
        }
