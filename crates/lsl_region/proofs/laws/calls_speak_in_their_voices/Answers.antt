use Rattle.lsl_region.proofs.ChatLaws.{owners, says, shouts, whispers}
use Rattle.lsl_region.proofs.laws.calls_speak_in_their_voices.Goals as goal

pub returns-clause-say : goal.returns-clause-say
returns-clause-say c = says

pub returns-clause-whisper : goal.returns-clause-whisper
returns-clause-whisper c = whispers

pub returns-clause-shout : goal.returns-clause-shout
returns-clause-shout c = shouts

pub returns-clause-owner : goal.returns-clause-owner
returns-clause-owner c = owners
