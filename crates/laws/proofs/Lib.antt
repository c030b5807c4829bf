pub mod FaultLines
pub mod CodeLines
pub mod ProgramLines
pub mod TextLines
pub mod LoadedLines
pub mod TurnRules
pub mod CommandRules
pub mod PlanPlaces
pub mod RunRecords
pub mod WrittenLogs
pub mod LiveFrames
pub mod WatchedTexts
pub mod LiveLogs
mod HeadersAgree
mod LinesAgree
mod PicturesAgree
mod HistoryFronts
mod OneGroup
mod OneIntergreen
mod EachBreach
mod BreachRows
mod LeastRow
mod LinesBegun
mod LinesCounted
mod UnitsFollow
mod OrderlyCode
mod OtherUnits
mod LinesSeen
mod UnitsSpent
mod StatementsCounted
mod QuietExpressions
mod TracesStand
pub mod CleanInterstages
pub mod TrialsSettle
pub mod SteeringPrograms
pub mod StagesShown
pub mod SteeringOrders
pub mod OneProgram
pub mod OneText
mod OneAnswer
mod NetAndLive
mod OneTrace
mod OneJudgement
mod OneProtocol
mod GuardedOutputs
mod AuditAndBreaches
mod WorstCases
mod LongestRuns
mod NeighbouringParts
mod OneShown
mod OneSums
mod OneSummed
mod OneComparison
mod OneRecord
mod OneSiteDiagram
mod CheckAndRun
