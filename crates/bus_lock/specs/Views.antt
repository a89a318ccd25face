-- What a pass knows, and how that changes.
use Rattle.std.specs.Prelude.{◌≡◌, ℕ, ◌+◌, ◌-◌, ◌++◌, max, nat_lt, cond, List, [], ◌∷◌, length, Some, None}
use mathlib.Core.Option.{some}
use lib.ListN.{get_elem?}
use Rattle.event_table.specs.declared.turn.Entry.{Entry}
use Rattle.bus_lock.specs.declared.view.View.{View}
use Rattle.bus_lock.specs.Lists.{joined_up}

-- all numbers of a view: its own, and those of the passes that were joined into it
abbrev pub numbers : View → List ℕ
numbers v = v.own ++ joined_up v.joined

abbrev pub EachView : (View → Type 0) → List View → Type 0
EachView P views = (id : ℕ) (v : View) → get_elem? views id ≡ some v → P v

-- the first pass: all shares, and nothing known
abbrev pub first_view : ℕ → List ℕ → View
first_view vcpus input = record {
  vcpus = vcpus;
  input = input;
  known = [];
  shorter = [];
  reached = 0;
  own = [];
  joined = [];
  held = None;
  share = 1024;
}

-- the host was taken, whose history is this
abbrev pub holding : View → List Entry → View
holding v history = record v { known = history; reached = length history; held = Some history }

-- the entry k was counted, which makes the history this
abbrev pub counting : View → List Entry → ℕ → View
counting v history k = record v { known = history; reached = k + 1; own = v.own ++ k ∷ []; held = Some history }

-- the host was given back
abbrev pub released : View → View
released v = record v { held = None }

-- the count was loaded
abbrev pub met : View → ℕ → View
met v count = record v { reached = count }

-- what a split leaves of the old pass
abbrev pub one_less : View → View
one_less v = record v { share = v.share - 1 }

-- the new pass of a split
abbrev pub fresh : View → View
fresh v = record v { own = []; joined = []; held = None; share = 1 }

abbrev pub longer : List Entry → List Entry → List Entry
longer a b = cond (nat_lt (length a) (length b)) b a

abbrev pub shorter : List Entry → List Entry → List Entry
shorter a b = cond (nat_lt (length a) (length b)) a b

-- two passes were put together: the first keeps the longer history, all numbers, and both shares
abbrev pub both : View → View → View
both v w = record v {
  known = longer v.known w.known;
  shorter = shorter v.known w.known;
  reached = max v.reached w.reached;
  joined = v.joined ++ w.own ∷ w.joined;
  held = None;
  share = v.share + w.share;
}

-- after that it is known that the longer history begins with the shorter one
abbrev pub settled : View → View
settled v = record v { shorter = [] }

-- what is left of a pass that was joined into another
abbrev pub spent : View
spent = record {
  vcpus = 0;
  input = [];
  known = [];
  shorter = [];
  reached = 0;
  own = [];
  joined = [];
  held = None;
  share = 0;
}
