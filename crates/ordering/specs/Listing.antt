-- Small cases that follow from the steps, computed.
use Rattle.std.specs.Prelude.{◌≡◌, ℕ, zero, suc, ◌+◌, ◌^◌, List, [], ◌∷◌, ◌++◌, reverse, length, drop, replicate, Some, None, Ok, Err}
use Rattle.machine.specs.AxisBanks.{axis_bank}
use Rattle.machine.specs.declared.command.Command.TheVariants.{Set, Shift, Mark}
use Rattle.ordering.specs.declared.calls.Call.{Call}
use Rattle.ordering.specs.declared.calls.Call.TheVariants.{Open, Send, Hear, Gather, Settle, Run}
use Rattle.ordering.specs.declared.calls.Refusal.TheVariants.{BadMemberCount, BadLastNumber, TableFull, NothingReady}
use Rattle.ordering.specs.Histories.{Event, opening, sending, hearing, gathering, settling, running}
use Rattle.ordering.specs.Worlds.{after}

-- The answers to a list of calls, the first call first, on a line of axis banks.
abbrev pub answers : List Call → List Event
answers cs = reverse (after axis_bank (reverse cs)).history

-- The answers to further calls, after those that bring the line there.
abbrev pub answers_after : List Call → List Call → List Event
answers_after start cs = drop (length start) (answers (start ++ cs))

-- The worked listing: two Sets of one axis, sent to both members and heard by them in opposite orders.
abbrev pub listing : List Call
listing =
    Open 2 9 ∷ Send 0 3 (Set 0 5) ∷ Send 1 3 (Set 0 8) ∷ Hear 1 1 ∷ Hear 1 2 ∷ Hear 0 2 ∷ Gather 0 2 ∷ Gather 1 2 ∷
    Settle 0 2 ∷ Run 0 ∷ Hear 0 1 ∷ Gather 0 1 ∷ Gather 1 1 ∷ Settle 1 2 ∷ Run 1 ∷ Settle 1 1 ∷ Run 1 ∷ Run 1 ∷
    Settle 0 1 ∷ Run 0 ∷ []

abbrev pub listed : List Event
listed =
    opening 2 9 (Ok tt) ∷ sending 0 3 (Set 0 5) (Ok 1) ∷ sending 1 3 (Set 0 8) (Ok 2) ∷ hearing 1 1 (Ok 0) ∷
    hearing 1 2 (Ok 1) ∷ hearing 0 2 (Ok 0) ∷ gathering 0 2 (Ok None) ∷ gathering 1 2 (Ok (Some 1)) ∷
    settling 0 2 (Ok 1) ∷ running 0 (Ok (1, 2)) ∷ hearing 0 1 (Ok 2) ∷ gathering 0 1 (Ok None) ∷
    gathering 1 1 (Ok (Some 2)) ∷ settling 1 2 (Ok 1) ∷ running 1 (Err NothingReady) ∷ settling 1 1 (Ok 2) ∷
    running 1 (Ok (1, 2)) ∷ running 1 (Ok (2, 1)) ∷ settling 0 1 (Ok 2) ∷ running 0 (Ok (2, 1)) ∷ []

-- The member hears n commands, from number k on.
abbrev pub hears : ℕ → ℕ → ℕ → List Call
hears m k zero = []
hears m k (suc n) = Hear m k ∷ hears m (suc k) n

-- And proposes t for each.
abbrev pub heard : ℕ → ℕ → ℕ → ℕ → List Event
heard m k zero t = []
heard m k (suc n) t = hearing m k (Ok t) ∷ heard m (suc k) n t

-- 32 commands open, each to both members.
abbrev pub full : List Call
full = Open 2 40 ∷ replicate 32 (Send 0 3 (Mark 0))

-- Four Sets of one axis, to both members, and n Marks, to member 0.
abbrev pub crowd : ℕ → List Call
crowd n = Open 2 99 ∷ (replicate 4 (Send 0 3 (Set 0 5)) ++ replicate n (Send 0 1 (Mark 0)))

-- Number 1 is heard last by member 1 and first by member 0, whose clock then rises to 3 and who hears the n Marks there.
abbrev pub crowding : ℕ → List Call
crowding n = hears 1 2 3 ++ (Hear 1 1 ∷ (hears 0 1 4 ++ (hears 0 5 n ++ (Gather 0 1 ∷ Gather 1 1 ∷ Settle 0 1 ∷ []))))

-- The settle of number 1 answers t.
abbrev pub crowded : ℕ → ℕ → List Event
crowded n t =
    hearing 1 2 (Ok 0) ∷ hearing 1 3 (Ok 1) ∷ hearing 1 4 (Ok 2) ∷ hearing 1 1 (Ok 3) ∷ hearing 0 1 (Ok 0) ∷
    hearing 0 2 (Ok 1) ∷ hearing 0 3 (Ok 2) ∷ hearing 0 4 (Ok 3) ∷
    (heard 0 5 n 3 ++ (gathering 0 1 (Ok None) ∷ gathering 1 1 (Ok (Some 3)) ∷ settling 0 1 (Ok t) ∷ []))

pub record Cases : Type 0 where
  -- The worked listing: each of its answers.
  pub worked : answers listing ≡ listed
  -- After it both stations have run (1, 2) and then (2, 1), so axis 0 is at 5.
  pub first_cells : (after axis_bank (reverse listing)).cells 0 ≡ 5 ∷ 0 ∷ 0 ∷ 0 ∷ 0 ∷ 0 ∷ 0 ∷ 0 ∷ []
  pub second_cells : (after axis_bank (reverse listing)).cells 1 ≡ 5 ∷ 0 ∷ 0 ∷ 0 ∷ 0 ∷ 0 ∷ 0 ∷ 0 ∷ []
  -- A line has 1 to 16 members.
  pub sixteen_members : answers (Open 16 9 ∷ []) ≡ opening 16 9 (Ok tt) ∷ []
  pub no_members : answers (Open 0 9 ∷ []) ≡ opening 0 9 (Err BadMemberCount) ∷ []
  pub seventeen_members : answers (Open 17 9 ∷ []) ≡ opening 17 9 (Err BadMemberCount) ∷ []
  -- The last issue number is at most 2^48.
  pub last_number : answers (Open 1 (2 ^ 48) ∷ []) ≡ opening 1 (2 ^ 48) (Ok tt) ∷ []
  pub beyond_last_number : answers (Open 1 (2 ^ 48 + 1) ∷ []) ≡ opening 1 (2 ^ 48 + 1) (Err BadLastNumber) ∷ []
  -- With 32 commands open a send is refused.
  pub table_full : answers_after full (Send 0 3 (Mark 0) ∷ []) ≡ sending 0 3 (Mark 0) (Err TableFull) ∷ []
  -- It is still when one has run at one destination of two, and accepted once that one has run at both.
  pub table_freed :
      answers_after full
      (Hear 0 1 ∷ Hear 1 1 ∷ Gather 0 1 ∷ Gather 1 1 ∷ Settle 0 1 ∷ Settle 1 1 ∷ Run 0 ∷ Send 0 3 (Mark 0) ∷ Run 1 ∷ Send 0 3 (Mark 0) ∷ [])
      ≡ hearing 0 1 (Ok 0) ∷ hearing 1 1 (Ok 0) ∷ gathering 0 1 (Ok None) ∷ gathering 1 1 (Ok (Some 0)) ∷
      settling 0 1 (Ok 0) ∷ settling 1 1 (Ok 0) ∷ running 0 (Ok (0, 1)) ∷ sending 0 3 (Mark 0) (Err TableFull) ∷
      running 1 (Ok (0, 1)) ∷ sending 0 3 (Mark 0) (Ok 33) ∷ []
  -- Marks conflict with nothing, so sixteen are heard at clock 0; the seventeenth finds 16 remembered.
  pub memory_full :
      answers_after (Open 1 40 ∷ replicate 17 (Send 0 1 (Mark 0))) (hears 0 1 17) ≡ heard 0 1 16 0 ++ (hearing 0 17 (Ok 1) ∷ [])
  -- Two Shifts of one axis do not conflict; a Set of it conflicts with both.
  pub shifts_and_set :
      answers_after (Open 1 9 ∷ Send 0 1 (Shift 0 1) ∷ Send 0 1 (Shift 0 2) ∷ Send 0 1 (Set 0 3) ∷ []) (hears 0 1 3)
      ≡ hearing 0 1 (Ok 0) ∷ hearing 0 2 (Ok 0) ∷ hearing 0 3 (Ok 1) ∷ []
  -- Final timestamp 3 reaches a member at clock 3 that remembers 16 others, the last Set and 15 Marks: the clock rises.
  pub settled_when_full : answers_after (crowd 15) (crowding 15) ≡ crowded 15 4
  -- With 15 others there is room: it stays.
  pub settled_with_room : answers_after (crowd 14) (crowding 14) ≡ crowded 14 3
  -- Of two ready commands the one with the smaller timestamp is taken, though its number is greater.
  pub earliest_by_timestamp :
      answers_after (Open 1 9 ∷ Send 0 1 (Set 0 5) ∷ Send 0 1 (Set 1 6) ∷ Send 0 1 (Set 1 7) ∷ [])
      (Hear 0 2 ∷ Hear 0 3 ∷ Hear 0 1 ∷ Gather 0 1 ∷ Gather 0 2 ∷ Settle 0 1 ∷ Settle 0 2 ∷ Run 0 ∷ Run 0 ∷ [])
      ≡ hearing 0 2 (Ok 0) ∷ hearing 0 3 (Ok 1) ∷ hearing 0 1 (Ok 1) ∷ gathering 0 1 (Ok (Some 1)) ∷
      gathering 0 2 (Ok (Some 0)) ∷ settling 0 1 (Ok 1) ∷ settling 0 2 (Ok 1) ∷ running 0 (Ok (0, 2)) ∷
      running 0 (Ok (1, 1)) ∷ []
  -- At equal timestamps the smaller number is taken, though the other was heard and settled first.
  pub earliest_by_number :
      answers_after (Open 1 9 ∷ Send 0 1 (Mark 0) ∷ Send 0 1 (Mark 0) ∷ [])
      (Hear 0 2 ∷ Hear 0 1 ∷ Gather 0 2 ∷ Gather 0 1 ∷ Settle 0 2 ∷ Settle 0 1 ∷ Run 0 ∷ Run 0 ∷ [])
      ≡ hearing 0 2 (Ok 0) ∷ hearing 0 1 (Ok 0) ∷ gathering 0 2 (Ok (Some 0)) ∷ gathering 0 1 (Ok (Some 0)) ∷
      settling 0 2 (Ok 0) ∷ settling 0 1 (Ok 0) ∷ running 0 (Ok (0, 1)) ∷ running 0 (Ok (0, 2)) ∷ []
  -- Number 1 is heard at 0 and conflicts: number 2, settled at 1, may not run.
  pub heard_blocks :
      answers_after (Open 1 9 ∷ Send 0 1 (Set 0 5) ∷ Send 0 1 (Set 0 8) ∷ []) (Hear 0 1 ∷ Hear 0 2 ∷ Gather 0 2 ∷ Settle 0 2 ∷ Run 0 ∷ [])
      ≡ hearing 0 1 (Ok 0) ∷ hearing 0 2 (Ok 1) ∷ gathering 0 2 (Ok (Some 1)) ∷ settling 0 2 (Ok 1) ∷
      running 0 (Err NothingReady) ∷ []
  -- Number 2 has final timestamp 1 but stands at its proposal 0 at member 0 until it is settled there: until then it
  -- keeps number 1, settled at 1, from running; afterwards (1, 1) is the earlier pair.
  pub gathered_blocks :
      answers_after (Open 2 9 ∷ Send 0 1 (Set 0 5) ∷ Send 0 3 (Set 0 8) ∷ Send 0 2 (Set 0 9) ∷ [])
      (Hear 1 3 ∷ Hear 1 2 ∷ Hear 0 2 ∷ Hear 0 1 ∷ Gather 0 2 ∷ Gather 1 2 ∷ Gather 0 1 ∷ Settle 0 1 ∷ Run 0 ∷ Settle 0 2 ∷ Run 0 ∷ [])
      ≡ hearing 1 3 (Ok 0) ∷ hearing 1 2 (Ok 1) ∷ hearing 0 2 (Ok 0) ∷ hearing 0 1 (Ok 1) ∷ gathering 0 2 (Ok None) ∷
      gathering 1 2 (Ok (Some 1)) ∷ gathering 0 1 (Ok (Some 1)) ∷ settling 0 1 (Ok 1) ∷ running 0 (Err NothingReady) ∷
      settling 0 2 (Ok 1) ∷ running 0 (Ok (1, 1)) ∷ []
  -- Number 2 has run everywhere and left the line, and is remembered all the same: number 1, heard later, conflicts with
  -- it and does not tie with it.
  pub departed_remembered :
      answers_after (Open 1 9 ∷ Send 0 1 (Set 0 5) ∷ Send 0 1 (Set 0 8) ∷ [])
      (Hear 0 2 ∷ Gather 0 2 ∷ Settle 0 2 ∷ Run 0 ∷ Hear 0 1 ∷ Gather 0 1 ∷ Settle 0 1 ∷ Run 0 ∷ [])
      ≡ hearing 0 2 (Ok 0) ∷ gathering 0 2 (Ok (Some 0)) ∷ settling 0 2 (Ok 0) ∷ running 0 (Ok (0, 2)) ∷
      hearing 0 1 (Ok 1) ∷ gathering 0 1 (Ok (Some 1)) ∷ settling 0 1 (Ok 1) ∷ running 0 (Ok (1, 1)) ∷ []
  -- A settle that finds 16 others remembered leaves the memory empty: a Set of the same axis then proposes the clock.
  pub settled_when_full_forgets :
      answers_after (crowd 15 ++ (Send 0 1 (Set 0 6) ∷ [])) (crowding 15 ++ (Hear 0 20 ∷ [])) ≡ crowded 15 4 ++ (hearing 0 20 (Ok 4) ∷ [])
