-- The crews of a file: on each place of a side, the sum of the token records for it. Empty where the check refuses the file.
use Rattle.std.specs.Prelude.{◌≡◌, ℕ, zero, suc, ◌+◌, ◌<◌, ◌≤◌, cond, ◌&&◌, List, map, IfSome, Some, None, sum, Option, ◌==◌, nat_lt, slice_index, slice_set}
use Rattle.std.specs.List.{range_with_len}
use Rattle.net.specs.Meaning.{count_of}
use Rattle.net.specs.Limits.{most_tokens}
use Rattle.records.specs.declared.counts.Counts.{Counts}
use Rattle.records.specs.declared.tokens.Tokens.{Tokens}
use Rattle.records.specs.Layout.{record_at}
use Rattle.records.specs.Entry.{Entry, declares, moves, holds, broken, reading}
use Rattle.records.specs.Tokens.{tokens_said}
use Rattle.records.specs.File.{net_of, admitted_records}

-- the tokens that one record puts on place p of a side
abbrev pub added : Entry → ℕ → ℕ → ℕ
added (declares number) side p = 0
added (moves place label targets) side p = 0
added (holds side' place n) side p = cond (side' == side && place == p) n 0
added broken side p = 0

-- the tokens that the first k records put there
abbrev pub held : List ℕ → ℕ → ℕ → ℕ → ℕ
held bytes side p zero = 0
held bytes side p (suc k) = held bytes side p k + added (reading (record_at bytes k)) side p

-- the crew of a side after the first k records, one entry for each place of the net
abbrev pub crew_after : List ℕ → ℕ → ℕ → List ℕ
crew_after bytes side k = map (λ p. held bytes side p k) (range_with_len 0 (net_of bytes).places)

abbrev pub crew_of : List ℕ → ℕ → List ℕ
crew_of bytes side = crew_after bytes side (admitted_records bytes)

-- ## Token records, one after the other

-- the tokens of record k, where it is a token record of an admitted file
abbrev pub token_record : List ℕ → ℕ → Option Tokens
token_record bytes k = cond (nat_lt k (admitted_records bytes)) (tokens_said (reading (record_at bytes k))) None

-- a side's crew with the tokens put on it
abbrev pub with_tokens : Option Tokens → ℕ → List ℕ → List ℕ
with_tokens None side crew = crew
with_tokens (Some t) side crew = cond (t.side == side) (slice_set crew t.place (slice_index crew t.place + t.count)) crew

-- tokens that a bench with the net of the file takes
pub record LawfulPut (bytes : List ℕ) (t : Tokens) : Type 0 where
  pub side_known : t.side ≤ 1
  pub place_known : t.place < (net_of bytes).places

-- what the tokens of record k make of the crews
pub record Put (bytes : List ℕ) (k : ℕ) (r : Option Tokens) : Type 0 where
  pub lawful : IfSome r (LawfulPut bytes)
  pub next : (side : ℕ) → crew_after bytes side (k + 1) ≡ with_tokens r side (crew_after bytes side k)
  pub light : (side : ℕ) → side ≤ 1 → sum (crew_after bytes side (k + 1)) ≤ most_tokens

-- ## What the counts of an admitted file are

pub record Measures (bytes : List ℕ) (c : Counts) : Type 0 where
  pub places : c.places ≡ (net_of bytes).places
  pub transitions : c.transitions ≡ count_of (net_of bytes)
  pub left : c.left ≡ sum (crew_of bytes 0)
  pub right : c.right ≡ sum (crew_of bytes 1)
  pub few_left : c.left ≤ most_tokens
  pub few_right : c.right ≤ most_tokens
