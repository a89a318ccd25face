-- Labels, and how an instruction moves them.
use Rattle.std.specs.Prelude.{ℕ, ◌+◌, zero, suc, Bool, true, false, ◌||◌, ◌&&◌, if◌then◌else◌, List, [], ◌∷◌, map, get_or, set}
use Rattle.x86_base.specs.declared.reg.Reg.{Reg}
use Rattle.x86_base.specs.declared.reg.Width.{Width}
use Rattle.x86_base.specs.declared.reg.Width.TheVariants.{B8, B16, B32, B64}
use Rattle.x86_base.specs.Registers.{number_of}
use Rattle.x86_base.specs.Widths.{size_of}
use Rattle.event_table.specs.declared.outcome.Reply.{Reply}
use Rattle.event_table.specs.declared.places.Place.{Place}
use Rattle.event_table.specs.declared.places.Place.TheVariants as place
use Rattle.event_table.specs.Places.{Vcpu, read}
use Rattle.event_table.specs.Plan.{Change, Plan, Ends, Next, Then, Looks, Asks, Use, apply}

-- A label stands on a whole register, on the status flags CF, PF, ZF, SF and OF together, or on a byte of RAM. The
-- direction flag and RIP never have one.
pub record Labels : Type 0 where
  pub gpr : List Bool
  pub status : Bool
  pub ram : List Bool

-- one of n bytes from an address on is labelled
abbrev pub any_byte : ℕ → ℕ → List Bool → Bool
any_byte zero at labels = false
any_byte (suc n) at labels = get_or labels at false || any_byte n (at + 1) labels

-- n bytes from an address on are labelled, or none of them is
abbrev pub set_bytes : ℕ → ℕ → Bool → List Bool → List Bool
set_bytes zero at is labels = labels
set_bytes (suc n) at is labels = set_bytes n (at + 1) is (set labels at is)

abbrev pub label_of : Labels → Reg → Bool
label_of l reg = get_or l.gpr (number_of reg) false

-- a label stands on the place
abbrev pub is_labelled : Labels → Place → Bool
is_labelled l (place.Fixed value) = false
is_labelled l (place.Low reg width) = label_of l reg
is_labelled l (place.High reg) = label_of l reg
is_labelled l place.Status = l.status
is_labelled l place.StatusButCarry = l.status
is_labelled l place.Carry = l.status
is_labelled l (place.Bytes at width) = any_byte (size_of width) at l.ram

-- on one of these
abbrev pub any : Labels → List Place → Bool
any l [] = false
any l (place ∷ places) = any l places || is_labelled l place

-- a write of this width keeps a part of the register (APM volume 1, section 3.1.2)
abbrev pub keeps : Width → Bool
keeps B8 = true
keeps B16 = true
keeps B32 = false
keeps B64 = false

abbrev pub put_label : Reg → Bool → Labels → Labels
put_label reg is l = record l { gpr = set l.gpr (number_of reg) is }

-- The labels after a write: where the value isn't labelled, a place keeps its label if a part of it stays.
abbrev pub mark : Bool → Place → Labels → Labels
mark is (place.Fixed value) l = l
-- a register written at 32 or 64 bits loses its label, one written at 8 or 16 bits keeps it
mark is (place.Low reg width) l = put_label reg (is || (keeps width && label_of l reg)) l
mark is (place.High reg) l = put_label reg (is || label_of l reg) l
-- the flags lose theirs where all five are written, and keep it where one of them stays
mark is place.Status l = record l { status = is }
mark is place.StatusButCarry l = record l { status = is || l.status }
mark is place.Carry l = record l { status = is || l.status }
-- each written byte of RAM loses its label
mark is (place.Bytes at width) l = record l { ram = set_bytes (size_of width) at is l.ram }

abbrev pub mark_all : Bool → List Place → Labels → Labels
mark_all is [] l = l
mark_all is (place ∷ places) l = mark_all is places (mark is place l)

-- The labels after a change: what was looked at, or is the result of an event, goes in without one, and what is
-- computed has one where something of what is read has.
abbrev pub marked : Change → Labels → Labels
marked c l = mark_all (any l c.reads) c.targets (mark_all false c.moved l)

-- What an instruction comes to for the labels: a labelled value goes into something, or the labels then.
pub data Noted : Type 0 where
  Uses : (kind : Use) → Noted
  Quiet : (labels : Labels) → Noted

-- up to its end, or to the event that it asks
abbrev pub noted : Labels → Vcpu → Plan → Noted
noted l v (Ends end) = Quiet l
noted l v Next = Quiet l
noted l v (Then change rest) = noted (marked change l) (apply change v) rest
noted l v (Looks kind places next) = if any l places then Uses kind else noted l v (next (map (read v) places))
noted l v (Asks event done) = Quiet l

-- with the reply to that event; what it was asked by is looked at once more
abbrev pub noted_after : Reply → Labels → Vcpu → Plan → Noted
noted_after reply l v (Looks kind places next) =
    if any l places then Uses kind else noted_after reply l v (next (map (read v) places))
noted_after reply l v (Asks event done) = noted l v (done reply)
noted_after reply l v _ = Quiet l
